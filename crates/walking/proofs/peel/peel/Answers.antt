-- What stands at the place is the field without its wrappers.
use Rattle.std.proofs.Common.{◌≡◌, List, ℕ, drop, length}
use Rattle.fields.specs.Field.{front}
use Rattle.walking.specs.Walking.{peel, peel_place}
use Rattle.walking.proofs.peel.peel.Goals as goal

module _ (s x : List ℕ) (n : ℕ) (e : x ≡ drop n s) where
  peel-read : front (drop n s) ≡ peel (front s) → front x ≡ peel (front s)
  peel-read f = rw e f

  peel-shown : n ≡ peel_place (length s) 0 (front s) → x ≡ drop (peel_place (length s) 0 (front s)) s
  peel-shown f = rw (← f) e

pub returns-clause-reads : goal.returns-clause-reads
returns-clause-reads c = search peel-read

pub returns-clause-shows : goal.returns-clause-shows
returns-clause-shows c = search peel-shown
