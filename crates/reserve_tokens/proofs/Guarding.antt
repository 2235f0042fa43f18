-- The guards of an entry, one after the other: each stands in the file, and a second token leaves none, be it the same or not.
use Rattle.std.proofs.Common.{ℕ, ◌+◌, ◌≡◌, refl, ◌∙◌, Bool, true, false, not, ◌&&◌, List, [], ◌∷◌, map, eqb-true, eq-eqb, ne_eqb, eqb, drop}
use borrow.Author.Tests.{eqb-false}
use Rattle.laws.specs.Lists.{filter}
use Rattle.laws.proofs.Lists.{Every}
use Rattle.tags.specs.Tag.{Guard, between}
use Rattle.tags.proofs.Ranges.{between-one}
use Rattle.fields.specs.Field.{Placed, fields, whole, front, tag, parts, placed, placed_from}
use Rattle.fields.specs.Row.{shown, left, Step}
use Rattle.fields.specs.declared.field.Fields.{Fields}
use Rattle.fields.specs.declared.field.Field.{Field as Found}
use Rattle.fields.proofs.Reading.{front-none}
use Rattle.fields.proofs.InARow.{left-next, placed-end}
use Rattle.fields.proofs.Inside.{Stands, parts-stand}
use Rattle.walking.specs.Table.{placed_at}
use Rattle.tokens.specs.Numbers.{joined}
use Rattle.tokens.proofs.Joining.{joined-empty, joined-first}
use Rattle.reserve_tokens.specs.Numbers.{guard_number, guard_numbers, only_number}

-- the only number among the one found so far and those that are left; 0 is none
unfoldable pub only_of : ℕ → List ℕ → ℕ
only_of found ks = only_number (filter (λ k. not (eqb k 0)) (found ∷ ks))

only-alone : (a : ℕ) → a ≡ only_of a []
unfolding only_of only_number
only-alone a = go (eqb a 0) refl
  where
    go : (b : Bool) → eqb a 0 ≡ b → a ≡ only_of a []
    go true e = eqb-true a 0 e ∙ rw e
    go false e = rw e

only_none : (ks : List ℕ) → only_of 0 ks ≡ only_number (filter (λ k. not (eqb k 0)) ks)
unfolding only_of
only_none ks = refl

module _ (file : List ℕ) (a b : ℕ) (ks : List ℕ) where
  only-two : not (eqb a 0) && not (eqb b 0) ≡ true → 0 ≡ only_of a (b ∷ ks)
  unfolding only_of only_number
  only-two e = go (eqb a 0) (eqb b 0) refl refl
    where
      go : (i j : Bool) → eqb a 0 ≡ i → eqb b 0 ≡ j → 0 ≡ only_of a (b ∷ ks)
      go false false p q = rw (p, q)
      go false true p q = cc
      go true j p q = cc

  -- of two that are not both there the one that is
  only-on : not (eqb a 0) && not (eqb b 0) ≡ false → only_of (joined file a b) ks ≡ only_of a (b ∷ ks)
  unfolding only_of
  only-on e = go (eqb a 0) (eqb b 0) refl refl
    where
      go : (i j : Bool) → eqb a 0 ≡ i → eqb b 0 ≡ j → only_of (joined file a b) ks ≡ only_of a (b ∷ ks)
      go i true p q = rw (← joined-empty file a b (eqb-true b 0 q), q)
      go true false p q = rw (← joined-first file a b (eqb-false b 0 q) (eqb-true a 0 p), p)
      go false false p q = cc

-- the guards among some fields
abbrev pub guards_among : List Placed → List Placed
guards_among ps = filter (λ q. between Guard Guard (tag q.this)) ps

-- these parts of the entry are left
pub record Guarding (file : List ℕ) (found r : ℕ) (rest : Fields) : Type 0 where
  pub stands : Every (Stands file) (left rest)
  pub ahead : only_of found (map (guard_number file) (guards_among (left rest))) ≡ r

module _ (file : List ℕ) (n : ℕ) (it : Fields) (t : it.rest.now ≡ drop n file) where
  pub no-entry : whole it.rest.now ≡ false → 0 ≡ only_number (guard_numbers file (placed_at file n))
  unfolding guard_numbers placed_from placed only_number
  no-entry w = let none = front-none (drop n file) (rw t at w) in rw none

  pub guarding-all : (z : it.place ≡ n) (f : Found) (behind : Fields) → Step it f behind →
      (row all : Fields) → all ≡ row → fields row.rest.now ≡ parts (front f.part.now) → row.place ≡ f.place + 3 →
      Guarding file 0 (only_number (guard_numbers file (placed_at file n))) all
  unfolding guard_numbers placed_from
  guarding-all z f behind h row all y r p =
      let here : f.part.now ≡ drop n file = h.part ∙ t in
      let there : row.place ≡ n + 3 = rw (p, h.place, z) in
      record {
        stands = rw (y, there, r, here) (parts-stand file (placed_at file n) refl);
        ahead = rw (y, there, r, here) (only_none (map (guard_number file) (guards_among (placed (n + 3) (parts (front (drop n file)))))));
      }

module _ (file : List ℕ) (found r : ℕ) (rest : Fields) (i : Guarding file found r rest) where
  pub guarding-end : whole rest.rest.now ≡ false → found ≡ r
  guarding-end w = only-alone found ∙ (rw (placed-end rest.rest.now w rest.place) at i.ahead)

  module _ (f : Found) (behind : Fields) (h : Step rest f behind) where
    both-stand : Every (Stands file) (shown f ∷ left behind)
    both-stand = rw (left-next rest f behind h) at i.stands

    module _ (g : ℕ) (e : g ≡ tag (front f.part.now)) where
      -- another field is passed over
      pub guarding-past : (g ≡ Guard → ⊥) → Guarding file found r behind
      guarding-past n = record {
        stands = both-stand.1;
        ahead = rw (left-next rest f behind h, ← e, between-one Guard g, ne_eqb g Guard n) at i.ahead;
      }

      module _ (q : g ≡ Guard) (k : ℕ) (j : k ≡ guard_number file (placed_at file f.place)) where
        here : only_of found (k ∷ map (guard_number file) (guards_among (left behind))) ≡ r
        here = rw (j, both-stand.0) (rw (left-next rest f behind h, ← e, between-one Guard g, eq-eqb g Guard q) at i.ahead)

        pub guarding-second : not (eqb found 0) && not (eqb k 0) ≡ true → 0 ≡ r
        guarding-second t = only-two file found k (map (guard_number file) (guards_among (left behind))) t ∙ here

        pub guarding-on : not (eqb found 0) && not (eqb k 0) ≡ false → (u : ℕ) → u ≡ joined file found k → Guarding file u r behind
        guarding-on t u o = record {
          stands = both-stand.1;
          ahead = rw o (only-on file found k (map (guard_number file) (guards_among (left behind))) t ∙ here);
        }
