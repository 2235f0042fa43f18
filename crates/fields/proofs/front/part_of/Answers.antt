-- The n-th of the bytes that hold the parts is the n-th part, and stands there.
use Rattle.std.proofs.Common.{◌≡◌, List, ℕ, take, drop}
use Rattle.fields.specs.Field.{fields, front, nth, part, parts, place_of, sizes}
use Rattle.fields.proofs.front.part_of.Goals as goal

module _ (s x y : List ℕ) (n : ℕ) (e : fields x ≡ parts (front s)) where
  part-read : front y ≡ nth n (fields x) → front y ≡ part n (front s)
  part-read f = rw (← e) f

  part-shown : x ≡ take (sizes (parts (front s))) (drop 3 s) → y ≡ drop (place_of n (fields x)) x →
      y ≡ drop (place_of n (parts (front s))) (take (sizes (parts (front s))) (drop 3 s))
  part-shown f g = rw (← f, ← e) g

pub returns-clause-reads : goal.returns-clause-reads
returns-clause-reads c = search part-read

pub returns-clause-shows : goal.returns-clause-shows
returns-clause-shows c = search part-shown
