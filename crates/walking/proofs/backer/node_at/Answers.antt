-- The two cases of the definition, by what the readers say of s.
use Rattle.std.proofs.Common.{ℕ, ◌+◌, ◌≡◌, Bool, true, false, ◌&&◌, List, eqb, Some, None}
use Rattle.fields.specs.Field.{tag_of, length_of, whole}
use Rattle.walking.specs.Node.{node_of}
use Rattle.walking.proofs.backer.node_at.Goals as goal

module _ (s : List ℕ) (tag t : ℕ) (v : Bool) (e : v ≡ whole s) (f : t ≡ tag_of s) where
  found : v && eqb t tag ≡ true → (l : ℕ) → l ≡ length_of s → Some (3 + l) ≡ node_of s tag
  found h l g = rw (← e, ← f, h, g)

  other : v && eqb t tag ≡ false → None ≡ node_of s tag
  other h = rw (← e, ← f, h)

pub returns-then-is_whole-front_tag : goal.returns-then-is_whole-front_tag
returns-then-is_whole-front_tag c = search found

pub returns : goal.returns
returns c = search other
