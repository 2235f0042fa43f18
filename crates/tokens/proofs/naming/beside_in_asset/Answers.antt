-- In-asset on the left names what is on the right, else in-asset on the right names what is on the left.
use Rattle.std.proofs.Common.{ℕ, ◌≡◌, ap, ◌∙◌, List, [], eq-eqb, ne_eqb}
use Rattle.fields.specs.Field.{Field, front, tag, part}
use Rattle.walking.specs.Walking.{peel, ident}
use Rattle.tokens.specs.Tokens.{beside_in_asset}
use Rattle.tokens.proofs.naming.beside_in_asset.Goals as goal

module _ (f : Field) (p q x y : List ℕ) (d : front p ≡ part 0 f) (e : front x ≡ peel (front p)) (g : front q ≡ part 1 f) (h : front y ≡ peel (front q))
    (t : ℕ) (i : t ≡ tag (front x)) where
  left : front x ≡ peel (part 0 f)
  left = e ∙ ap peel d

  right : front y ≡ peel (part 1 f)
  right = h ∙ ap peel g

  by_left : t ≡ 0x36 → (r : List ℕ) → r ≡ ident (front y) → r ≡ beside_in_asset f
  unfolding beside_in_asset
  by_left k r o = o ∙ rw (← left, ← i, eq-eqb t 0x36 k, right)

  module _ (n : t ≡ 0x36 → ⊥) (u : ℕ) (j : u ≡ tag (front y)) where
    by_right : u ≡ 0x36 → (r : List ℕ) → r ≡ ident (front x) → r ≡ beside_in_asset f
    unfolding beside_in_asset
    by_right k r o = o ∙ rw (← left, ← right, ← i, ← j, ne_eqb t 0x36 n, eq-eqb u 0x36 k)

    neither : (u ≡ 0x36 → ⊥) → [] ≡ beside_in_asset f
    unfolding beside_in_asset
    neither m = rw (← left, ← right, ← i, ← j, ne_eqb t 0x36 n, ne_eqb u 0x36 m)

pub returns-then-tag_of-eq-IN_ASSET : goal.returns-then-tag_of-eq-IN_ASSET
returns-then-tag_of-eq-IN_ASSET c = search by_left

pub returns-then-tag_of-eq-IN_ASSET-2 : goal.returns-then-tag_of-eq-IN_ASSET-2
returns-then-tag_of-eq-IN_ASSET-2 c = search by_right

pub returns : goal.returns
returns c = search neither
