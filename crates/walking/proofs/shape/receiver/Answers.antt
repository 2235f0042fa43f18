-- The identifier in the first part of the callee.
use Rattle.std.proofs.Common.{◌≡◌, List, ℕ}
use Rattle.fields.specs.Field.{front, part}
use Rattle.walking.specs.Walking.{ident, receiver}
use Rattle.walking.proofs.shape.receiver.Goals as goal

receiver-read : (s x y z : List ℕ) → front x ≡ part 0 (front s) → front y ≡ part 0 (front x) → z ≡ ident (front y) → z ≡ receiver (front s)
unfolding receiver
receiver-read s x y z e f g = rw (← e, ← f) g

pub returns : goal.returns
returns c = search receiver-read
