-- A guard's expression stands behind its head; only an Eq names a token, and the comparison's place is what is cut off before it.
use Rattle.std.proofs.Common.{ℕ, ◌+◌, ◌-◌, ◌≤◌, ◌≡◌, sym, ap, ◌∙◌, Bool, true, false, not, List, arith, eq-eqb, ne_eqb, length, drop, length-drop, drop-drop}
use borrow.Author.Tests.{not-true, not-false}
use Rattle.laws.proofs.Lists.{no-elements}
use Rattle.laws.proofs.Texts.{unknown, is_known}
use Rattle.laws.specs.Texts.{known}
use Rattle.tags.specs.Tag.{is_wrapper}
use Rattle.fields.specs.Field.{fields, whole, front, tag, parts, part, nth, placed}
use Rattle.fields.proofs.Inside.{parts-stand}
use Rattle.fields.proofs.Reading.{fields-next, fields-end}
use Rattle.walking.specs.Walking.{peel, peel_place}
use Rattle.walking.specs.Table.{placed_at}
use Rattle.tokens.specs.Tokens.{beside_in_asset}
use Rattle.tokens.proofs.Joining.{nothing-beside}
use Rattle.tokens.proofs.Shown.{peel-shift}
use Rattle.reserve_tokens.specs.ReserveTokens.{guard_token}
use Rattle.reserve_tokens.specs.Numbers.{guard_number}
use Rattle.reserve_tokens.proofs.guard.guard_number.Goals as goal

module _ (file : List ℕ) (at : ℕ) (s : List ℕ) (e : s ≡ drop at file) (p : List ℕ) (f : fields p ≡ parts (front s)) (b : Bool) (g : b ≡ whole p) where
  -- no expression
  hollow : not b ≡ true → 0 ≡ guard_number file (placed_at file at)
  unfolding guard_number guard_token peel is_wrapper nth known
  hollow h = rw (← e, ← f, fields-end p (sym g ∙ not-true b h))

  module _ (h : not b ≡ false) (z : List ℕ) (i : z ≡ drop 3 s) where
    first-there : front z ≡ part 0 (front s)
    unfolding placed nth
    first-there =
        let w : whole p ≡ true = sym g ∙ not-false b h in
        let d : front (drop (at + 3) file) ≡ front p = (rw (← f, fields-next p w) at (parts-stand file (record { place = at; this = front s }) (rw e))).0 in
        let u : z ≡ drop (at + 3) file = rw (i, e, drop-drop 3 at file) in
        let v : front p ≡ part 0 (front s) = rw (← f) in
        ap (λ x. front x) u ∙ d ∙ v

    module _ (y : List ℕ) (j : front y ≡ peel (front z)) (t : ℕ) (k : t ≡ tag (front y)) where
      no-equation : (t ≡ 0x42 → ⊥) → 0 ≡ guard_number file (placed_at file at)
      unfolding guard_number guard_token known
      no-equation n = rw (← e, ← first-there, ← j, ← k, ne_eqb t 0x42 n)

      module _ (q : t ≡ 0x42) (x : List ℕ) (l : x ≡ beside_in_asset (front y)) where
        token-is : guard_token (part 0 (front s)) ≡ x
        unfolding guard_token
        token-is = rw (← first-there, ← j, ← k, eq-eqb t 0x42 q) (sym l)

        unnamed : length x ≡ 0 → 0 ≡ guard_number file (placed_at file at)
        unfolding guard_number
        unnamed m = rw (← e, token-is, unknown x m)

        module _ (m : y ≡ drop (peel_place (length z) 0 (front z)) z) where
          -- the comparison is there, so it stands before the end of the file
          there : (length x ≡ 0 → ⊥) → length y ≡ 0 → ⊥
          there n o = n (rw (l, no-elements y o, nothing-beside))

          place_there : (length x ≡ 0 → ⊥) → length file - length y ≡ peel_place (length file) (at + 3) (front z)
          place_there n =
              let c : length y ≡ length z - peel_place (length z) 0 (front z) = rw m (length-drop (peel_place (length z) 0 (front z)) z) in
              let d : length z ≡ length file - at - 3 = rw (i, length-drop 3 s, e, length-drop at file) in
              let o : length y ≡ 0 → ⊥ = there n in
              let u : at + 3 + length z ≡ length file = omega (arith, c, d, o) in
              let v : at + 3 + 0 ≡ at + 3 = omega arith in
              let w : peel_place (length file) (at + 3) (front z) ≡ at + 3 + peel_place (length z) 0 (front z) =
              rw (u, v) at (peel-shift (at + 3) (length z) 0 (front z)) in
              omega (arith, c, d, o, u, w)

          number_is : (length x ≡ 0 → ⊥) → length file - length y + 2 ≡ guard_number file (placed_at file at)
          unfolding guard_number
          number_is n = rw (← e, token-is, is_known x n, place_there n, first-there)

shorter : (file : List ℕ) (at : ℕ) (s : List ℕ) → s ≡ drop at file → (z : List ℕ) → z ≡ drop 3 s → (k : ℕ) (y : List ℕ) → y ≡ drop k z → length y ≤ length file
shorter file at s e z i k y m = rw (m, length-drop k z, i, length-drop 3 s, e, length-drop at file) (omega arith)

pub returns-then-not-is_whole : goal.returns-then-not-is_whole
returns-then-not-is_whole c = search hollow

pub returns-then-tag_of-ne-EQ : goal.returns-then-tag_of-ne-EQ
returns-then-tag_of-ne-EQ c = search no-equation

pub returns-then-beside_in_asset-eq0 : goal.returns-then-beside_in_asset-eq0
returns-then-beside_in_asset-eq0 c = search unnamed

pub overflow_sub-result : goal.overflow_sub-result
overflow_sub-result c = search shorter

pub returns : goal.returns
returns c = search number_is
