-- An entry's number stands for the tokens that its conditions name: each condition stands in the file, and so does the token.
use Rattle.std.proofs.Common.{ℕ, ◌+◌, ◌-◌, ◌%◌, ◌≤◌, ◌<◌, ◌≡◌, refl, sym, ◌∙◌, Bool, true, false, cond, List, [], ◌∷◌, ◌++◌, map, arith, le-leb, eqb, length, get_or, drop}
use Rattle.std.proofs.Common.{drop_of_length-le, drop-drop}
use mathlib.Core.List.{flat_map}
use Rattle.laws.specs.Lists.{filter}
use Rattle.laws.specs.Texts.{known}
use Rattle.laws.proofs.Lists.{Every}
use Rattle.laws.proofs.Slices.{drop-step}
use Rattle.laws.proofs.Texts.{unknown, is_known}
use Rattle.tags.specs.Tag.{Eq}
use Rattle.fields.specs.Field.{Placed, front}
use Rattle.fields.proofs.Inside.{Stands}
use Rattle.walking.specs.Table.{placed_at}
use Rattle.conditions.specs.Conditions.{Condition, required_conditions, operator}
use Rattle.conditions.specs.Table.{condition_at}
use Rattle.conditions.proofs.Callers.{Holds, conditions-stand}
use Rattle.tokens.specs.Tokens.{beside_in_asset, token_named, tokens_named, admitted_inflow_token}
use Rattle.tokens.specs.Numbers.{token_at}
use Rattle.tokens.specs.Numbers.{token_of, joined, joined_all, condition_number, tokens_number}
use Rattle.tokens.proofs.Joining.{Means, means-token, means-all, means-small, all-several}

-- What the code tests

module _ (n : ℕ) (entry : List ℕ) (k : ℕ) (t : List ℕ) (e : t ≡ token_at entry k) where
  pub number-none : length t ≡ 0 → 0 ≡ condition_number n (condition_at entry k)
  unfolding condition_number token_at
  number-none h = rw (← e, unknown t h)

  pub number-some : (length t ≡ 0 → ⊥) → n + k % 32768 + 2 ≡ condition_number n (condition_at entry k)
  unfolding condition_number condition_at token_at
  number-some h = rw (← e, is_known t h)

-- What it stands for

named-beside : (c : Condition) → known (token_named c) ≡ true → token_named c ≡ beside_in_asset c.this
unfolding token_named known
named-beside c h = go (eqb (operator c) Eq) h
  where
    go : (k : Bool) → known (cond k (beside_in_asset c.this) []) ≡ true → cond k (beside_in_asset c.this) [] ≡ beside_in_asset c.this
    go true h = refl
    go false h = cc

-- the token that a condition names, or none
abbrev pub named_by : Condition → List (List ℕ)
named_by c = filter known (token_named c ∷ [])

condition-token : (file : List ℕ) (n : ℕ) (c : Condition) → front (drop c.place (drop n file)) ≡ c.this → token_of file (n + c.place + 2) ≡ beside_in_asset c.this
unfolding token_of
condition-token file n c s =
    let z : n + c.place + 2 - 2 ≡ n + c.place = omega arith in
    rw (le-leb 2 (n + c.place + 2) (omega arith), z, ← drop-drop c.place n file, s)

condition-means : (file : List ℕ) (n : ℕ) (c : Condition) → front (drop c.place (drop n file)) ≡ c.this → Means file (condition_number n c) (named_by c)
unfolding condition_number
condition-means file n c s = go (known (token_named c)) refl
  where
    go : (k : Bool) → known (token_named c) ≡ k → Means file (cond k (n + c.place + 2) 0) (cond k (token_named c ∷ []) [])
    go true e = (condition-token file n c s ∙ sym (named-beside c e), e)
    go false e = refl

conditions-mean : (file : List ℕ) (n : ℕ) (cs : List Condition) → Every (Holds (Stands (drop n file))) cs → Every (λ c. Means file (condition_number n c) (named_by c)) cs
conditions-mean file n [] e = tt
conditions-mean file n (c ∷ cs) e = (condition-means file n c e.0, conditions-mean file n cs e.1)

named-each : (cs : List Condition) → flat_map named_by cs ≡ filter known (map token_named cs)
unfolding flat_map
named-each [] = refl
named-each (c ∷ cs) = go (known (token_named c)) (named-each cs)
  where
    go : (k : Bool) → flat_map named_by cs ≡ filter known (map token_named cs) →
        cond k (token_named c ∷ []) [] ++ flat_map named_by cs ≡ cond k (token_named c ∷ filter known (map token_named cs)) (filter known (map token_named cs))
    go true e = rw e
    go false e = e

-- a set with that of the entry
pub entry-joined : (file : List ℕ) (p : Placed) → Stands file p → (a : ℕ) (ts : List (List ℕ)) → Means file a ts →
    Means file (joined_all file a (map (condition_number p.place) (required_conditions p.this))) (ts ++ tokens_named p.this)
unfolding tokens_named
entry-joined file p s a ts e =
    rw (← named-each (required_conditions p.this))
    (means-all file (condition_number p.place) named_by a ts (required_conditions p.this) e
    (conditions-mean file p.place (required_conditions p.this) (rw s at (conditions-stand (drop p.place file)))))

pub entry-means : (file : List ℕ) (p : Placed) → Stands file p → Means file (tokens_number file p) (tokens_named p.this)
unfolding tokens_number
entry-means file p s = entry-joined file p s 0 [] refl

-- so the token that it stands for is the one that the entry admits
pub number-token : (file : List ℕ) (n k : ℕ) → k ≡ tokens_number file (placed_at file n) → (r : List ℕ) → r ≡ token_of file k →
    r ≡ admitted_inflow_token (front (drop n file))
unfolding admitted_inflow_token
number-token file n k e r f =
    f ∙ rw e (means-token file (tokens_number file (placed_at file n)) (tokens_named (front (drop n file))) (entry-means file (placed_at file n) refl))

pub front-token : (s : List ℕ) (k : ℕ) → k ≡ tokens_number s (placed_at s 0) → (r : List ℕ) → r ≡ token_of s k → r ≡ admitted_inflow_token (front s)
front-token s k e r f = number-token s 0 k e r f

pub number_small : (file : List ℕ) (n : ℕ) → length file ≤ 32768 → (r : ℕ) → r ≡ tokens_number file (placed_at file n) → r < 65536
number_small file n h r e =
    means-small file h r (tokens_named (front (drop n file))) (rw e (entry-means file (placed_at file n) refl))

-- The conditions of a table, one after the other

-- the number of the condition that a mark stands for
unfoldable pub mark_number : List ℕ → ℕ → ℕ → ℕ
mark_number entry n k = condition_number n (condition_at entry k)

pub mapped-marks : (entry : List ℕ) (n : ℕ) (ks : List ℕ) → map (mark_number entry n) ks ≡ map (condition_number n) (map (condition_at entry) ks)
unfolding mark_number
mapped-marks entry n [] = refl
mapped-marks entry n (k ∷ ks) = rw (mapped-marks entry n ks)

-- those behind the first i are left
pub record Joining (g : ℕ → ℕ) (file l : List ℕ) (r i found : ℕ) : Type 0 where
  pub within : i ≤ length l
  pub ahead : joined_all file found (map g (drop i l)) ≡ r

pub joining-all : (g : ℕ → ℕ) (file l : List ℕ) (a : ℕ) → Joining g file l (joined_all file a (map g l)) 0 a
joining-all g file l a = record { within = omega arith; ahead = refl }

module _ (n : ℕ) (s file l : List ℕ) (r i found : ℕ) (v : Joining (mark_number s n) file l r i found) where
  pub joining-done : length l ≤ i → found ≡ r
  unfolding joined_all
  joining-done h = rw (drop_of_length-le l h) at v.ahead

  module _ (h : i < length l) (k : ℕ) (f : k ≡ get_or l i 0) (b : ℕ) (g : b ≡ condition_number n (condition_at s k)) (u : ℕ) (q : u ≡ joined file found b) where
    named_here : b ≡ mark_number s n (get_or l i 0)
    unfolding mark_number
    named_here = rw (← f) g

    here : joined_all file u (map (mark_number s n) (drop (i + 1) l)) ≡ r
    unfolding joined_all
    here = rw (q, named_here) (rw (drop-step l i h) at v.ahead)

    pub joining-on : Joining (mark_number s n) file l r (i + 1) u
    joining-on = record { within = omega arith; ahead = here }

    -- two that differ stay so
    pub joining-several : u ≡ 1 → r ≡ 1
    joining-several d = sym here ∙ rw d (all-several file (map (mark_number s n) (drop (i + 1) l)))
