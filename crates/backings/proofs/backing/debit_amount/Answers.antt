-- The readers are the definition's, one inside the other.
use Rattle.std.proofs.Common.{◌≡◌, List, ℕ}
use Rattle.fields.specs.Field.{front, part}
use Rattle.walking.specs.Walking.{peel}
use Rattle.backings.proofs.backing.debit_amount.Goals as goal

amount-read : (s x y : List ℕ) → front x ≡ part 2 (front s) → front y ≡ peel (front x) → front y ≡ peel (part 2 (front s))
amount-read s x y e f = rw (← e) f

pub returns : goal.returns
returns c = search amount-read
