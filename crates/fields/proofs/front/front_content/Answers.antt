-- The bytes behind the head, as many as it states.
use Rattle.std.proofs.Common.{◌≡◌, List, ℕ, take, drop}
use Rattle.fields.specs.Field.{length_of, content}
use Rattle.fields.proofs.front.front_content.Goals as goal

content-read : (s x y : List ℕ) (n : ℕ) → x ≡ drop 3 s → n ≡ length_of s → y ≡ take n x → y ≡ content s
content-read s x y n e f g = rw (← e, ← f) g

pub returns : goal.returns
returns c = search content-read
