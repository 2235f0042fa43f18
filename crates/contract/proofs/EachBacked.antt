-- Demand 3 holds of each entry, and so of each record that is there whole: the bytes written are the first of the file's records,
-- and what is read back is the verdict with its numbers and covers. Where there was room for all records, each is whole.
use Rattle.std.proofs.Common.{ℕ, ◌≤◌, ◌<◌, ◌≡◌, refl, arith, ltb-true, ltb, length, take}
use mathlib.Core.List.{List, [], ◌++◌, flat_map}
use Rattle.fields.specs.Field.{Field, fields}
use Rattle.model.specs.Model.{entries}
use Rattle.questions.specs.Questions.{passes, ask_file}
use Rattle.claim.specs.Verdict.{matching, entry_at, ask_exists, ask_entry, entry_verdict, verdict}
use Rattle.claim.specs.Claim.{Backed}
use Rattle.claim.proofs.Fitting.{earlier-asked, asked}
use Rattle.claim.proofs.Claim.{backed-by}
use Rattle.output.specs.Output.{Written}
use Rattle.output.proofs.Buffer.{written-front}
use Rattle.contract.specs.Records.{verdict_on, record_on, below, records, covers_enough}
use Rattle.contract.specs.Reading.{outcome_in, first_in, second_in, size_of, covers_in, Whole, records_from}
use Rattle.contract.specs.Backed.{EachVerdictBacked, EachBacked, EachWhole}
use Rattle.contract.proofs.Each.{some-there}
use Rattle.contract.proofs.Enough.{Fitting, entry-fits, enough}
use Rattle.contract.proofs.Reading.{outcome-read, first-read, second-read, size-read, covers-read, record-whole, record-there}

-- The records of a file that passes questions 1 to 8, and of one of its entries

module _ (file : List ℕ) (f : ask_file file ≡ passes) where
  abbrev count : ℕ
  count = length (entries (fields file))

  -- how many bytes each takes is read off it
  sized : (m : ℕ) → m < count → (behind : List ℕ) → size_of (record_on file m ++ behind) ≡ length (record_on file m)
  unfolding record_on
  sized m h behind = size-read (entry_at (fields file) m).this behind (verdict_on file m) (entry-fits file f m h)

  all-records : 0 < count → records file ≡ flat_map (record_on file) (below count)
  unfolding records
  all-records h = rw (records, f, some-there count h)

  whole-there : (n k : ℕ) → n < count → length (records file) ≤ k → Whole (records_from (take k (records file)) n)
  whole-there n k h room =
      let all : records file ≡ flat_map (record_on file) (below count) = all-records (omega (arith, h)) in
      rw all (record-there (record_on file) count sized k n h (rw all at room))

  module _ (n : ℕ) (e : ask_entry (fields file) n covers_enough ≡ passes) where
    abbrev entry : Field
    entry = (entry_at (fields file) n).this

    -- question 9
    there : n < count
    unfolding ask_entry
    there = ltb-true n count (asked (ltb n count) 9 0 (earlier-asked (ask_exists (fields file) n) _ e))

    told : matching (fields file) entry ≡ verdict_on file n
    unfolding verdict_on verdict entry_verdict
    told = rw (verdict_on, verdict, f, entry_verdict, e)

    -- of what is read in front of some bytes
    abbrev ReadBacked : List ℕ → Type 0
    ReadBacked r = Backed (fields file) entry [] (outcome_in r) (first_in r) (second_in r) (covers_in r)

    read-backed : (r behind : List ℕ) → r ≡ record_on file n ++ behind → ReadBacked r
    unfolding record_on
    read-backed r behind g =
        let v = verdict_on file n in
        let fits : Fitting entry v = entry-fits file f n there in
        rw g (backed-by (fields file) entry [] v told _ _ _ _
        (outcome-read entry behind v) (first-read entry behind v fits) (second-read entry behind v fits) (covers-read entry behind v fits))

    -- in the first k bytes of the records
    whole-backed : (k : ℕ) → let r = records_from (take k (records file)) n in Whole r → ReadBacked r
    whole-backed k w =
        let all : records file ≡ flat_map (record_on file) (below count) = all-records (omega (arith, there)) in
        let (behind, g) = record-whole (record_on file) count sized k n there (rw all at w) in
        read-backed (records_from (take k (records file)) n) behind (rw all g)

pub each-verdict-backed : (file : List ℕ) → EachVerdictBacked file
unfolding EachVerdictBacked
each-verdict-backed file n f e =
    backed-by (fields file) (entry_at (fields file) n).this [] (verdict_on file n) (told file f n e) _ _ _ _ refl refl refl refl

module _ (file before after : List ℕ) (r : ℕ) (p : Written (records file) before 0 after r) where
  pub each-backed : EachBacked file (take r after)
  unfolding EachBacked
  each-backed n f e = rw (written-front (records file) before after r p) (whole-backed file f n e r)

  pub each-whole : EachWhole file before (take r after)
  unfolding EachWhole
  each-whole room n f h =
      rw (written-front (records file) before after r p) (whole-there file f n r h (omega (arith, p.count, enough file, room)))
