-- The bytes behind the head and as many more as it states.
use Rattle.std.proofs.Common.{◌≡◌, List, ℕ, ◌+◌, drop}
use Rattle.fields.specs.Field.{length_of, after}
use Rattle.fields.proofs.front.after_front.Goals as goal

after_read : (s x : List ℕ) (n : ℕ) → n ≡ length_of s → x ≡ drop (3 + n) s → x ≡ after s
after_read s x n e f = rw (← e) f

pub returns : goal.returns
returns c = search after_read
