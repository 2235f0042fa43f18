-- The text of the callee's second part is a method's name exactly where a call has a member as its callee.
use Rattle.std.proofs.Common.{◌≡◌, true, false, ◌&&◌, List, [], ℕ, eqb}
use Rattle.tags.specs.Tag.{Member, Call}
use Rattle.fields.specs.Field.{front, tag, text, part}
use Rattle.walking.specs.Walking.{method}
use Rattle.walking.proofs.shape.method.Goals as goal

module _ (s k : List ℕ) (e : front k ≡ part 0 (front s)) (t u : ℕ) (f : t ≡ tag (front s)) (g : u ≡ tag (front k)) where
  called : eqb t Call && eqb u Member ≡ true → (x y : List ℕ) → front y ≡ part 1 (front k) → x ≡ text (front y) → x ≡ method (front s)
  unfolding method
  called h x y i j = rw (← e, ← f, ← g, h, ← i) j

  not-called : eqb t Call && eqb u Member ≡ false → [] ≡ method (front s)
  unfolding method
  not-called h = rw (← e, ← f, ← g, h)

pub returns-then-tag_of : goal.returns-then-tag_of
returns-then-tag_of c = search called

pub returns : goal.returns
returns c = search not-called
