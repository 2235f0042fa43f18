-- The records of the entries so far are written, and the largest of what those are is known. The next entry is the one that the row
-- yields then, and where it yields none these are all.
use Rattle.std.proofs.Common.{ℕ, suc, ◌+◌, ◌*◌, ◌≤◌, ◌<◌, ◌≡◌, refl, sym, ap, ◌∙◌, cond, List, eqb, filter, arith, ltb, length, get_or}
use Rattle.std.proofs.lemmas.List.{get_or_default}
use mathlib.Core.List.{flat_map}
use Rattle.laws.proofs.Lists.{every-at}
use Rattle.tags.specs.Tag.{Entry}
use Rattle.tags.proofs.Ranges.{between-one}
use Rattle.fields.specs.Field.{Placed, fields, placed, placed_from, tag}
use Rattle.fields.proofs.Inside.{Stands}
use Rattle.walking.specs.Table.{placed_at}
use Rattle.entries.specs.Entered.{entry_of}
use Rattle.model.specs.Model.{entries}
use Rattle.questions.specs.Questions.{passes, ask_file}
use Rattle.reserves.specs.Holding.{FactsOf}
use Rattle.reserves.specs.Reading.{file_of, Same}
use Rattle.reserves.specs.declared.reading.Reading.{Reading}
use Rattle.claim.specs.Verdict.{entry_at, verdict}
use Rattle.std.specs.Ordering.{ord_max}
use Rattle.verdict.specs.contracts.numbers.OutcomeOrd.TheImpl.{cmp-value}
use Rattle.verdict.specs.Outcomes.{outcome_number}
use Rattle.verdict.specs.declared.numbers.Outcome.{Outcome}
use Rattle.verdict.specs.declared.numbers.Outcome.TheVariants.{Accepted, Rejected, Refused}
use Rattle.verdict.proofs.Asking.{entries-stand, not-ninth}
use Rattle.output.specs.Writes.{Writes}
use Rattle.output.specs.declared.Output.{Output}
use Rattle.output.proofs.Buffer.{writes-none, writes_then}
use Rattle.contract.specs.Records.{recorded, verdict_on, record_on, below, largest, covers_enough}
use Rattle.contract.specs.Coded.{verdict_at}
use Rattle.contract.specs.Each.{record_count, each_record, outcome_on, largest_of_each, EachRecorded, EntryRecorded}
use Rattle.contract.proofs.Passed.{few-entries}
use Rattle.contract.proofs.Fine.{entry-inside}
use Rattle.contract.proofs.Below.{each-then}

-- the fields of a file that are entries
pub entries-of : (file s : List ℕ) (n : ℕ) → s ≡ file → n ≡ 0 → filter (λ p. eqb (tag p.this) Entry) (placed n (fields s)) ≡ entries (fields file)
unfolding entries placed_from
entries-of file s n e f = rw (e, f) (simp between-one)

-- the larger of two numbers
abbrev pub larger : ℕ → ℕ → ℕ
larger a b = cond (ltb a b) b a

-- as the worse of two outcomes has it
pub worse-of : (a b : Outcome) → outcome_number (ord_max cmp-value.it a b) ≡ larger (outcome_number a) (outcome_number b)
worse-of Accepted Accepted = refl
worse-of Accepted Rejected = refl
worse-of Accepted Refused = refl
worse-of Rejected Accepted = refl
worse-of Rejected Rejected = refl
worse-of Rejected Refused = refl
worse-of Refused Accepted = refl
worse-of Refused Rejected = refl
worse-of Refused Refused = refl

-- of the first entries, as many as are counted; the reading is of the file, its table has room, and its facts are right
pub record Recording (file : List ℕ) (reading : Reading) (start output : Output) (count : ℕ) (outcome : Outcome) : Type 0 where
  pub passed : ask_file file ≡ passes
  pub of : file_of reading ≡ file
  pub room : length file ≤ 3 * length reading.scratch.now
  pub known : FactsOf reading.facts.now
  pub counted : count ≤ length (entries (fields file))
  pub worst : outcome_number outcome ≡ largest (outcome_on file) count
  pub bytes : Writes (flat_map (record_on file) (below count)) start output

module _ (file : List ℕ) (p : ask_file file ≡ passes) (start : Output) where
  pub recording-none : (reading : Reading) → file_of reading ≡ file → Recording file reading start start 0 Accepted
  unfolding largest below flat_map
  recording-none reading e = record {
    passed = p;
    of = e;
    room = omega (arith, ap length e, reading.room);
    known = reading.right;
    counted = omega arith;
    worst = refl;
    bytes = writes-none start;
  }

  -- what the row yields is the next entry
  module _ (count : ℕ) (next : Placed) (h : (count < length (entries (fields file))) × (next ≡ get_or (entries (fields file)) count next)) where
    pub next-counted : count < 64
    next-counted = omega (arith, h.0, few-entries file p)

    next-entry : next ≡ entry_at (fields file) count
    next-entry = h.1 ∙ get_or_default (entries (fields file)) count next _ h.0

    pub next-inside : next.place ≤ length file
    next-inside = rw next-entry (entry-inside file count h.0)

    -- which stands at its place
    next-there : entry_at (fields file) count ≡ placed_at file next.place
    next-there =
        let q : Stands file (entry_at (fields file) count) = every-at (Stands file) (entries (fields file)) (entries-stand file) count _ h.0 in
        rw next-entry (ap (λ f. record { place = (entry_at (fields file) count).place; this = f }) (sym q))

    next-verdict : verdict_on file count ≡ verdict_at file next.place
    unfolding verdict_on verdict
    next-verdict = rw (verdict_on, verdict, p) (not-ninth (fields file) count covers_enough h.0 (placed_at file next.place) next-there)

    next-record : record_on file count ≡ recorded (entry_of file next.place) (verdict_at file next.place)
    unfolding record_on
    next-record =
        let e : (entry_at (fields file) count).this ≡ entry_of file next.place = ap (λ q. q.this) next-there in
        rw (record_on, e, next-verdict)

    pub recording_on : (reading : Reading) (output : Output) (outcome : Outcome) → Recording file reading start output count outcome →
        (used : Reading) → Same reading used → (after : Output) (what : Outcome) → EntryRecorded file next.place output after what →
        (worse : Outcome) → outcome_number worse ≡ larger (outcome_number outcome) (outcome_number what) →
        Recording file used start after (count + 1) worse
    unfolding largest below
    recording_on reading output outcome i used same after what r m e =
        let one : count + 1 ≡ suc count = omega arith in
        record {
          passed = p;
          of = same.file ∙ i.of;
          room = omega (arith, i.room, same.long);
          known = used.right;
          counted = omega (arith, h.0);
          worst = rw (one, next-verdict, ← i.worst, ← r.what) e;
          bytes = rw (one, each-then (record_on file) (below count) count, next-record)
              (writes_then start (flat_map (record_on file) (below count)) _ output after i.bytes r.bytes);
        }

  pub recording-all : (reading : Reading) (output : Output) (count : ℕ) (outcome : Outcome) → Recording file reading start output count outcome →
      count ≡ length (entries (fields file)) → (out after : List ℕ) → start.buffer.now ≡ out → start.written ≡ 0 → output.buffer.now ≡ after →
      EachRecorded file out after (record { outcome = outcome; count = count; end = output.written })
  unfolding largest_of_each record_count each_record
  recording-all reading output count outcome i e out after f g h = record {
    what = rw (largest_of_each, p, ← e) i.worst;
    many = rw (record_count, p) e;
    bytes = rw (each_record, p, ← e, ← f, ← g, ← h) i.bytes.bytes;
  }
