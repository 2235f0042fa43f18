-- A table that has a number for each three bytes of the file has room for all calls of an entry, and only a call funds a map.
use Rattle.std.proofs.Common.{ℕ, zero, suc, ◌+◌, ◌*◌, ◌≤◌, ◌<◌, ◌≡◌, refl, sym, ap, ◌∙◌, Bool, true, false, not, ◌&&◌, List, [], ◌∷◌, None, Some, arith, leb-true}
use Rattle.std.proofs.Common.{ltb-true, ltb-false, ltb, eqb, length, get_or, take, drop, length-drop, drop_of_length-le}
use borrow.Author.Tests.{not-true, not-false}
use Rattle.std.specs.List.{position}
use Rattle.std.proofs.lemmas.List.Quantifiers.{position-Some}
use Rattle.laws.specs.Texts.{same_bytes}
use Rattle.laws.proofs.Lists.{any-first, Every}
use Rattle.laws.proofs.Truths.{chosen, and_left}
use Rattle.tags.specs.Tag.{Call, Member}
use Rattle.fields.specs.Table.{Listed, fields_at}
use Rattle.fields.specs.Field.{Field, Fields, length_of, whole, front, tag, part, parts, nothing, nth, placed, size, sizes}
use Rattle.fields.specs.Field.Fields.{end, next}
use Rattle.fields.proofs.Inside.{Stands, parts-stand}
use Rattle.fields.proofs.Reading.{front-none}
use Rattle.fields.proofs.Places.{front-size}
use Rattle.fields.proofs.Tables.{listed-front}
use Rattle.walking.specs.Walking.{method, ident, receiver, exprs, body_exprs, peel}
use Rattle.walking.specs.Table.{placed_at, places_of}
use Rattle.walking.proofs.Calls.{is_call}
use Rattle.walking.proofs.Callers.{body-read, body-few}
use Rattle.tokens.specs.Tokens.{is_credit, is_inflow, is_funding}
use Rattle.fundings.specs.Fundings.{is_funding_call, funded_by}
use Rattle.fundings.proofs.Maps.{none-passes}

-- The table of an entry's calls

module _ (file : List ℕ) (n : ℕ) where
  -- each call takes three bytes at least
  pub calls-few : 3 * length (places_of Call (body_exprs (placed_at file n))) ≤ length (drop n file)
  unfolding size sizes
  calls-few = go (whole (drop n file)) refl
    where
      few : 3 + 3 * length (places_of Call (body_exprs (placed_at file n))) ≤ size (front (drop n file))
      few = body-few (placed_at file n) Call

      go : (w : Bool) → whole (drop n file) ≡ w → 3 * length (places_of Call (body_exprs (placed_at file n))) ≤ length (drop n file)
      go true w = omega (arith, few, front-size (drop n file) w, leb-true (3 + length_of (drop n file)) (length (drop n file)) w)
      go false w = omega (arith, few, ap size (front-none (drop n file) w))

  module _ (zeros calls : List ℕ) (count : ℕ) (l : Listed (places_of Call (body_exprs (placed_at file n))) zeros 0 calls count) where
    -- so there is room for all
    pub room-lent : length file ≤ 3 * length zeros → count ≤ length zeros
    room-lent h = omega (arith, l.count, calls-few, length-drop n file)

    -- and the table holds them in front
    module _ (m : count ≤ length zeros) where
      pub calls-front : take count calls ≡ places_of Call (body_exprs (placed_at file n))
      calls-front = listed-front (places_of Call (body_exprs (placed_at file n))) zeros calls count l m

-- Calls that fund a map

-- what the code tests
module _ (entry f : Field) (a : Bool) (e : a ≡ is_credit f) where
  pub no-credit : not a ≡ true → false ≡ is_funding_call entry f
  unfolding is_funding_call
  no-credit h = rw (← e, not-true a h)

  pub by-amount : not a ≡ false → (p q : List ℕ) → front p ≡ part 2 f → front q ≡ peel (front p) →
      (r : Bool) → r ≡ is_inflow entry (front q) → r ≡ is_funding_call entry f
  unfolding is_funding_call
  by-amount h p q u v r o = o ∙ rw (← e, not-false a h, v, u)

-- a call funds the map if it funds some map and is one of it
pub funding-either : (m : List ℕ) (e f : Field) → is_funding m e f ≡ is_funding_call e f && same_bytes (receiver f) m
unfolding is_funding is_funding_call
funding-either m e f = go (is_credit f) (same_bytes (receiver f) m) (is_inflow e (peel (part 2 f)))
  where
    go : (i j k : Bool) → i && j && k ≡ i && k && j
    go true true true = refl
    go true true false = refl
    go true false true = refl
    go true false false = refl
    go false j k = refl

funding-call : (m : List ℕ) (entry f : Field) → is_funding m entry f ≡ true → is_call f ≡ true
unfolding is_funding is_credit method same_bytes
funding-call m entry f h = go (is_call f) refl
  where
    go : (k : Bool) → is_call f ≡ k → is_call f ≡ true
    go true e = e
    go false e = cc

-- the first of some fields of the file stands in front of them, if any is there
pub first-there : (file : List ℕ) (n i : ℕ) (fs : Fields) → (nth i fs ≡ nothing → ⊥) → Every (Stands file) (placed n fs) → front (drop n file) ≡ nth 0 fs
unfolding placed nth
first-there file n i (end r) h e = absurd (h refl)
first-there file n i (next f fs) h e = e.0

-- a credit has a callee with a name
no-name : (f : Field) → part 1 (part 0 f) ≡ nothing → method f ≡ []
unfolding method
no-name f z = chosen (λ x. x ≡ []) (eqb (tag f) Call && eqb (tag (part 0 f)) Member) (rw z refl) refl

credit-name : (f : Field) → is_credit f ≡ true → part 1 (part 0 f) ≡ nothing → ⊥
unfolding is_credit same_bytes
credit-name f h z = cc (rw (no-name f z) at h)

-- so it names its map behind two heads
module _ (file : List ℕ) (e : Field) (n : ℕ) (h : is_funding_call e (front (drop n file)) ≡ true) where
  named : part 1 (part 0 (front (drop n file))) ≡ nothing → ⊥
  unfolding is_funding_call
  named = credit-name (front (drop n file)) (and_left (is_credit (front (drop n file))) _ h)

  pub funding-inside : n < length file
  unfolding nth
  funding-inside = go (ltb n (length file)) refl
    where
      go : (b : Bool) → ltb n (length file) ≡ b → n < length file
      go true l = ltb-true n (length file) l
      go false l = absurd (named (rw (drop_of_length-le file {i = n} (ltb-false n (length file) l), front-none [] refl)))

  callee : front (drop (n + 3) file) ≡ part 0 (front (drop n file))
  unfolding nth
  callee = first-there file (n + 3) 0 (parts (front (drop n file))) (λ z. named (rw z)) (parts-stand file (placed_at file n) refl)

  pub funding-named : ident (front (drop (n + 6) file)) ≡ receiver (front (drop n file))
  unfolding receiver
  funding-named =
      let z : n + 3 + 3 ≡ n + 6 = omega arith in
      let called : Field = part 0 (front (drop n file)) in
      rw (← z, first-there file (n + 3 + 3) 1 (parts called) named (parts-stand file (record { place = n + 3; this = called }) callee))

-- so the calls of the body decide
pub calls-fund : (file : List ℕ) (n : ℕ) → length file < 65536 → (m : List ℕ) →
    funded_by (front (drop n file)) (fields_at file (places_of Call (body_exprs (placed_at file n)))) m
    ≡ funded_by (front (drop n file)) (exprs (front (drop n file))) m
unfolding funded_by fields_at
calls-fund file n h m =
    rw (body-read file n Call h) (any-first (is_funding m (front (drop n file))) is_call (funding-call m (front (drop n file))) (exprs (front (drop n file))))

-- what none before the i-th funds, those from it on do
pub awaited : (file : List ℕ) (e : Field) (calls : List ℕ) (i : ℕ) → i ≤ length calls →
    ((k : ℕ) → k < i → is_funding_call e (front (drop (get_or calls k 0) file)) ≡ false) → (m : List ℕ) →
    funded_by e (fields_at file (drop i calls)) m ≡ funded_by e (fields_at file calls) m
unfolding funded_by fields_at
awaited file e calls zero h n m = refl
awaited file e [] (suc i) h n m = refl
awaited file e (k ∷ ks) (suc i) h n m =
    awaited file e ks i (omega (arith, h)) (λ j l. n (suc j) (omega (arith, l))) m
    ∙ rw (funding-either m e (front (drop k file)), n 0 (omega arith))

-- so where none funds some map, none funds this
pub none-funds : (file : List ℕ) (e : Field) (calls : List ℕ) →
    position (λ call. is_funding_call e (front (drop call file))) calls ≡ None → (m : List ℕ) → funded_by e (fields_at file calls) m ≡ false
unfolding funded_by fields_at
none-funds file e calls h m =
    sym (awaited file e calls (length calls) (omega arith) (λ k l. none-passes _ calls h k 0 l) m)
    ∙ rw (drop_of_length-le calls {i = length calls} (omega arith))

-- and where one does, those from the first on do what all do
pub first-on : (file : List ℕ) (e : Field) (calls : List ℕ) (i : ℕ) →
    position (λ call. is_funding_call e (front (drop call file))) calls ≡ Some i → (m : List ℕ) →
    funded_by e (fields_at file (drop i calls)) m ≡ funded_by e (fields_at file calls) m
first-on file e calls i h m =
    let p = position-Some (λ call. is_funding_call e (front (drop call file))) calls i 0 h in
    awaited file e calls i (omega (arith, p.0)) p.2 m
