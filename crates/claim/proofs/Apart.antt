-- No two covers name the same: everything is free once at the start, and what a cover names is free once less after it.
use Rattle.std.proofs.Common.{ℕ, ◌+◌, ◌≤◌, ◌<◌, arith, ◌≡◌, refl, ap, Bool, true, false, ◌&&◌, ◌||◌, not, List, [], ◌∷◌, eq-eqb, eqb-true, eqb, length, get_or}
use Rattle.laws.specs.Lists.{any, position, numbered}
use Rattle.laws.specs.Texts.{same_bytes}
use Rattle.laws.proofs.Counting.{bit, count, count-cons, count-append, count_none, count_index, count-taken, only_one}
use Rattle.laws.proofs.Truths.{and_right}
use Rattle.fields.specs.Field.{Field, Fields}
use Rattle.model.specs.Model.{state_names}
use Rattle.walking.specs.Walking.{debits, asset_params}
use Rattle.matching.specs.Matching.{Cover, Source, Backing, Marks, debit, parameter, debit_backings, parameter_backings, backings, equals, bounds, equal_cover, bounding_cover, start}
use Rattle.matching.specs.Matching.Cover.{reserve}
use Rattle.matching.proofs.Ways.{Step, equal, bounding, reserving}
use Rattle.claim.specs.Verdict.{kind, index}
use Rattle.claim.specs.Claim.{named_by}
use Rattle.claim.proofs.Passing.{Passed, done, step}
use Rattle.claim.proofs.Backs.{debit_of, parameter_of}

-- the cover names the debit (k is 1), parameter (2) or reserve (5) at index i
abbrev pub names : ℕ → ℕ → Cover → Bool
names k i c = eqb k (named_by (kind c)) && eqb i (index c)

-- the backing is the debit or parameter at index i
abbrev is : ℕ → ℕ → Backing → Bool
is k i b = eqb k (kind (equal_cover b)) && eqb i b.index

-- how many times that may still be named
abbrev room : Marks → ℕ → ℕ → ℕ
room s k i = count (is k i) s.free + bit (eqb k 5 && not (any (eqb i) s.used))

-- a cover names the backing that it was made of
equal-names : (k i : ℕ) (b : Backing) → names k i (equal_cover b) ≡ is k i b
unfolding kind index named_by
equal-names k i b = go b.source refl
  where
    go : (x : Source) → b.source ≡ x → names k i (equal_cover b) ≡ is k i b
    go debit h = rw h
    go parameter h = rw h

bounding-names : (k i : ℕ) (b : Backing) → names k i (bounding_cover b) ≡ is k i b
unfolding kind index named_by
bounding-names k i b = go b.source refl
  where
    go : (x : Source) → b.source ≡ x → names k i (bounding_cover b) ≡ is k i b
    go debit h = rw h
    go parameter h = rw h

-- a reserve that is used can be named no more
reserve-room : (k i j : ℕ) (used : List ℕ) → any (eqb j) used ≡ false →
    bit (names k i (reserve j)) + bit (eqb k 5 && not (any (eqb i) (j ∷ used))) ≤ bit (eqb k 5 && not (any (eqb i) used))
unfolding kind index named_by
reserve-room k i j used e = go (eqb k 5) (eqb i j) refl
  where
    go : (x y : Bool) → eqb i j ≡ y →
        bit (x && eqb i j) + bit (x && not (eqb i j || any (eqb i) used)) ≤ bit (x && not (any (eqb i) used))
    go false y h = omega arith
    go true true h = rw (h, eqb-true i j h, e) (omega arith)
    go true false h = rw h (omega arith)

module _ (model : Fields) (entry : Field) (k i : ℕ) where
  -- what a payout's cover names can be named once less after it
  step_room : (s : Marks) (p : Field) (c : Cover) (t : Marks) → Step model entry s p c t → bit (names k i c) + room t k i ≤ room s k i
  step_room s p c t (equal {b} e a) =
      omega (arith, ap bit (equal-names k i b), count-taken (equals p) (is k i) s.free b e)
  step_room s p c t (bounding {b} _ _ e a) =
      omega (arith, ap bit (bounding-names k i b), count-taken (bounds p) (is k i) s.free b e)
  step_room s p c t (reserving {r} _ _ e u) =
      omega (arith, reserve-room k i (position (same_bytes r) (state_names model)) s.used u)

  -- so often at most the covers of a pass name it
  passed-room : (s : Marks) (ps : List Field) (cs : List Cover) → Passed model entry s ps cs → count (names k i) cs ≤ room s k i
  passed-room s ps cs done = omega arith
  passed-room s ps cs (step {t} {p} {ps = qs} {c} {cs = ds} x r) =
      omega (arith, count-cons (names k i) c ds, step_room s p c t x, passed-room t qs ds r)

  -- among the debits, and among the parameters, each index stands once
  debits-once : count (is k i) (debit_backings model entry) ≤ bit (eqb k 1)
  unfolding debit_backings kind
  debits-once = go (eqb k 1) refl
    where
      go : (x : Bool) → eqb k 1 ≡ x → count (is k i) (debit_backings model entry) ≤ bit x
      go true h = count_index (debit_of model) (is k i) i (λ (j, d) e. eqb-true i j (and_right (eqb k 1) (eqb i j) e)) 0 (debits entry)
      go false h = omega (arith, count_none (debit_of model) (is k i) (λ p. rw h) (numbered 0 (debits entry)))

  parameters-once : count (is k i) (parameter_backings entry) ≤ bit (eqb k 2)
  unfolding parameter_backings kind
  parameters-once = go (eqb k 2) refl
    where
      go : (x : Bool) → eqb k 2 ≡ x → count (is k i) (parameter_backings entry) ≤ bit x
      go true h = count_index (parameter_of entry) (is k i) i (λ (j, d) e. eqb-true i j (and_right (eqb k 2) (eqb i j) e)) 0 (asset_params entry)
      go false h = omega (arith, count_none (parameter_of entry) (is k i) (λ p. rw h) (numbered 0 (asset_params entry)))

  -- and what is named is only one of the three
  bits : bit (eqb k 1) + bit (eqb k 2) + bit (eqb k 5 && not (any (eqb i) [])) ≤ 1
  bits = go (eqb k 1) refl (eqb k 2) refl (eqb k 5) refl (not (any (eqb i) []))
    where
      go : (x : Bool) → eqb k 1 ≡ x → (y : Bool) → eqb k 2 ≡ y → (z : Bool) → eqb k 5 ≡ z → (w : Bool) → bit x + bit y + bit (z && w) ≤ 1
      go true e y f z g w =
          let p : false ≡ y = rw (eqb-true k 1 e) at f in
          let q : false ≡ z = rw (eqb-true k 1 e) at g in
          rw (← p, ← q) (omega arith)
      go false e true f z g w = let q : false ≡ z = rw (eqb-true k 2 f) at g in rw (← q) (omega arith)
      go false e false f false g w = omega arith
      go false e false f true g true = omega arith
      go false e false f true g false = omega arith

  -- at the start everything can be named once
  once : room (start model entry) k i ≤ 1
  unfolding start backings
  once = omega (arith, count-append (is k i) (debit_backings model entry) (parameter_backings entry), debits-once, parameters-once, bits)

  pub named-once : (ps : List Field) (cs : List Cover) → Passed model entry (start model entry) ps cs → count (names k i) cs ≤ 1
  named-once ps cs r = omega (arith, passed-room (start model entry) ps cs r, once)

-- no two covers of a pass name the same
pub apart-covers : (model : Fields) (entry : Field) (ps : List Field) (cs : List Cover) → Passed model entry (start model entry) ps cs →
    (i j : ℕ) (d : Cover) → i < length cs → j < length cs →
    named_by (kind (get_or cs i d)) ≡ named_by (kind (get_or cs j d)) → index (get_or cs i d) ≡ index (get_or cs j d) → i ≡ j
apart-covers model entry ps cs r i j d h l e f =
    only_one (names (named_by (kind (get_or cs i d))) (index (get_or cs i d))) cs i j d
    (named-once model entry (named_by (kind (get_or cs i d))) (index (get_or cs i d)) ps cs r) h l
    (rw (eq-eqb (named_by (kind (get_or cs i d))) _ refl, eq-eqb (index (get_or cs i d)) _ refl)) (rw (eq-eqb _ _ e, eq-eqb _ _ f))
