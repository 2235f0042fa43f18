-- The calls of an entry's body are all in the table, and a test that only a call passes needs no others.
use Rattle.std.proofs.Common.{ℕ, ◌*◌, ◌≤◌, ◌≡◌, refl, sym, ◌∙◌, Bool, true, false, cond, ◌&&◌, ◌||◌, List, [], ◌∷◌, Option, None, Some, arith, eqb, length, take, drop}
use Rattle.std.specs.Option.{option_map}
use Rattle.std.proofs.lemmas.Iterator.Adapters.{option_map_id}
use Rattle.laws.specs.Texts.{same_bytes}
use Rattle.laws.specs.Lists.{any, filter, find}
use Rattle.laws.proofs.Truths.{and_left}
use Rattle.laws.proofs.Lists.{any-first}
use Rattle.tags.specs.Tag.{Call}
use Rattle.fields.specs.Table.{Listed, fields_at}
use Rattle.fields.specs.Field.{Field, front, tag, part}
use Rattle.walking.specs.Walking.{peel, method, is_debit, debits, exprs, body_exprs}
use Rattle.walking.specs.Table.{placed_at, places_of}
use Rattle.walking.proofs.Calls.{is_call, debit-call}
use Rattle.walking.proofs.Callers.{body-read}
use Rattle.equality.specs.Equality.{expr_eq}
use Rattle.tokens.specs.Tokens.{is_credit}
use Rattle.tokens.specs.Numbers.{Standing}
use Rattle.fundings.proofs.Calls.{room-lent, calls-front}
use Rattle.reserve_tokens.specs.ReserveTokens.{credited}
use Rattle.reserve_tokens.specs.Reserving.{with_amount}

-- the calls of an entry stand at the places of those of its body
pub calls-there : (file : List ℕ) (n : ℕ) → length file ≤ 32768 → (calls : List ℕ) → calls ≡ places_of Call (body_exprs (placed_at file n)) →
    fields_at file calls ≡ filter (λ f. eqb (tag f) Call) (exprs (front (drop n file)))
unfolding fields_at
calls-there file n h calls e = rw e (body-read file n Call (omega (arith, h)))

-- and so do those that list_body writes into a table of one number for each three bytes, which has room for all
pub calls-read : (file : List ℕ) (n j : ℕ) → Standing file n j → (table calls : List ℕ) (count : ℕ) →
    Listed (places_of Call (body_exprs (placed_at file n))) table 0 calls count → length file ≤ 3 * length table →
    fields_at file (take count calls) ≡ filter (λ f. eqb (tag f) Call) (exprs (front (drop n file)))
calls-read file n j h table calls count l k =
    calls-there file n h.short (take count calls) (calls-front file n table calls count l (room-lent file n table calls count l k))

-- only calls are of the two kinds
credit-call : (f : Field) → is_credit f ≡ true → is_call f ≡ true
unfolding is_credit method same_bytes
credit-call f h = go (is_call f) refl
  where
    go : (k : Bool) → is_call f ≡ k → is_call f ≡ true
    go true e = e
    go false e = cc

pub amount-call : (kind : Field → Bool) → ((f : Field) → kind f ≡ true → is_call f ≡ true) → (v f : Field) → with_amount kind v f ≡ true → is_call f ≡ true
unfolding with_amount
amount-call kind implies v f h = implies f (and_left (kind f) (expr_eq (peel (part 2 f)) v) h)

-- What the code tests: a kind is asked of the calls of the amount alone

any-both : {A : Type 0} (p q : A → Bool) (l : List A) → any p (filter q l) ≡ any (λ x. p x && q x) l
any-both p q [] = refl
any-both p q (x ∷ xs) = go (q x) (p x) refl (any-both p q xs)
  where
    go : (j k : Bool) → p x ≡ k → any p (filter q xs) ≡ any (λ y. p y && q y) xs →
        any p (cond j (x ∷ filter q xs) (filter q xs)) ≡ k && j || any (λ y. p y && q y) xs
    go true true e b = rw e
    go true false e b = rw (e, b)
    go false true e b = b
    go false false e b = b

find-both : {A : Type 0} (p q : A → Bool) (l : List A) → find p (filter q l) ≡ find (λ x. p x && q x) l
find-both p q [] = refl
find-both p q (x ∷ xs) = go (q x) (p x) refl (find-both p q xs)
  where
    go : (j k : Bool) → p x ≡ k → find p (filter q xs) ≡ find (λ y. p y && q y) xs →
        find p (cond j (x ∷ filter q xs) (filter q xs)) ≡ cond (k && j) (Some x) (find (λ y. p y && q y) xs)
    go true true e b = rw e
    go true false e b = rw (e, b)
    go false true e b = b
    go false false e b = b

module _ (kind : Field → Bool) (v : Field) (file calls : List ℕ) where
  -- the calls of the amount
  abbrev pub of_amount : ℕ → Bool
  of_amount call = expr_eq (peel (part 2 (front (drop call file)))) v

  pub any-of_amount : (r : Bool) → r ≡ any (λ call. kind (front (drop call file))) (filter of_amount calls) →
      r ≡ any (λ call. with_amount kind v (front (drop call file))) calls
  unfolding with_amount
  any-of_amount r e = e ∙ any-both (λ call. kind (front (drop call file))) of_amount calls

  pub find-of_amount : (r : Option ℕ) → option_map (λ call. call) r ≡ find (λ call. kind (front (drop call file))) (filter of_amount calls) →
      r ≡ find (λ call. with_amount kind v (front (drop call file))) calls
  unfolding with_amount
  find-of_amount r e = sym (option_map_id r) ∙ e ∙ find-both (λ call. kind (front (drop call file))) of_amount calls

-- Whether some call passes: no other field does

pub credited-any : (entry v : Field) (fs : List Field) → fs ≡ filter is_call (exprs entry) → any (with_amount is_credit v) fs ≡ credited entry v
unfolding credited with_amount
credited-any entry v fs e = rw e (any-first (with_amount is_credit v) is_call (amount-call is_credit credit-call v) (exprs entry))

-- The first debit of the amount is the first call that passes

find-among : {A : Type 0} (p q : A → Bool) (l : List A) → find p (filter q l) ≡ find (λ x. q x && p x) l
find-among p q [] = refl
find-among p q (x ∷ xs) = go (q x) (p x) refl (find-among p q xs)
  where
    go : (j k : Bool) → p x ≡ k → find p (filter q xs) ≡ find (λ y. q y && p y) xs →
        find p (cond j (x ∷ filter q xs) (filter q xs)) ≡ cond (j && k) (Some x) (find (λ y. q y && p y) xs)
    go true true b e = rw b
    go true false b e = rw (b, e)
    go false k b e = e

find-implied : {A : Type 0} (p q : A → Bool) → ((x : A) → p x ≡ true → q x ≡ true) → (l : List A) → find p (filter q l) ≡ find p l
find-implied p q implies [] = refl
find-implied p q implies (x ∷ xs) = go (p x) (q x) refl refl (find-implied p q implies xs)
  where
    go : (j k : Bool) → p x ≡ j → q x ≡ k → find p (filter q xs) ≡ find p xs → find p (cond k (x ∷ filter q xs) (filter q xs)) ≡ cond j (Some x) (find p xs)
    go true true a b e = rw a
    go true false a b e = cc (implies x a)
    go false true a b e = rw (a, e)
    go false false a b e = e

pub debit-found : (entry v : Field) (fs : List Field) → fs ≡ filter is_call (exprs entry) →
    find (λ d. expr_eq (peel (part 2 d)) v) (debits entry) ≡ find (with_amount is_debit v) fs
unfolding debits with_amount
debit-found entry v fs e =
    find-among (λ d. expr_eq (peel (part 2 d)) v) is_debit (exprs entry)
    ∙ sym (rw e (find-implied (with_amount is_debit v) is_call (amount-call is_debit debit-call v) (exprs entry)))

-- A test of the fields at some places, place by place

pub any-placed : (p : Field → Bool) (file calls : List ℕ) → any (λ call. p (front (drop call file))) calls ≡ any p (fields_at file calls)
unfolding fields_at
any-placed p file [] = refl
any-placed p file (k ∷ ks) = rw (any-placed p file ks)

pub find-placed : {B : Type 0} (p : Field → Bool) (f : Field → B) (d : B) (file calls : List ℕ) →
    ◌≡◌ {A = B} (elim (find p (fields_at file calls)) [ None ↦ d | Some x ↦ f x ])
    (elim (find (λ call. p (front (drop call file))) calls) [ None ↦ d | Some call ↦ f (front (drop call file)) ])
unfolding fields_at
find-placed {B = B} p f d file [] = refl
find-placed {B = B} p f d file (k ∷ ks) = go (p (front (drop k file))) (find-placed p f d file ks)
  where
    go : (b : Bool) →
        ◌≡◌ {A = B} (elim (find p (fields_at file ks)) [ None ↦ d | Some x ↦ f x ])
        (elim (find (λ call. p (front (drop call file))) ks) [ None ↦ d | Some call ↦ f (front (drop call file)) ]) →
        ◌≡◌ {A = B} (elim (cond b (Some (front (drop k file))) (find p (fields_at file ks))) [ None ↦ d | Some x ↦ f x ])
        (elim (cond b (Some k) (find (λ call. p (front (drop call file))) ks)) [ None ↦ d | Some call ↦ f (front (drop call file)) ])
    go true e = refl
    go false e = e
