-- The records as the code goes through them: each as the bytes from its first one on.
use Rattle.std.specs.Prelude.{ℕ, zero, suc, List, [], ◌∷◌, drop}
use Rattle.contract.specs.Reading.{size_of}
use Rattle.listing.specs.declared.records.Record.{Record}
use Rattle.listing.specs.declared.records.Records.{Records}

abbrev pub bytes_of : Record → List ℕ
bytes_of r = r.bytes.now

-- the first records of some bytes
unfoldable pub first_records : (count : ℕ) → List ℕ → List (List ℕ)
first_records zero s = []
first_records (suc count) s = s ∷ first_records count (drop (size_of s) s)

-- those that are left
abbrev pub left : Records → List (List ℕ)
left r = first_records r.left r.rest.now
