-- The records of a file that is refused, and those with the refusal of question 9, by whether there are entries.
use Rattle.std.proofs.Common.{ℕ, zero, suc, ◌≤◌, ◌<◌, ◌≡◌, refl, sym, ap, ◌∙◌, List, append-nil, arith, pos_of_ne-zero, length, Ok, Err}
use mathlib.Core.List.{flat_map}
use Rattle.fields.specs.Field.{Field, fields, nothing}
use Rattle.model.specs.Model.{entries}
use Rattle.questions.specs.Questions.{Asked, passes, fails, ask_file}
use Rattle.questions.specs.Answers.{Answered, number_of, asked}
use Rattle.questions.specs.declared.question.Refusal.{Refusal}
use Rattle.verdict.specs.declared.numbers.Outcome.TheVariants.{Refused}
use Rattle.claim.specs.Verdict.{refused, verdict, outcome, first_of, second_of, written}
use Rattle.claim.proofs.Fitting.{answered-short}
use Rattle.verdict.proofs.Asking.{ninth}
use Rattle.output.specs.Writes.{Writes}
use Rattle.output.specs.declared.Output.{Output}
use Rattle.contract.specs.Records.{recorded, verdict_on, record_on, below, at_least_one, records, largest, outcome_of_all, covers_enough}
use Rattle.contract.specs.Coded.{head_of}
use Rattle.contract.specs.Each.{record_count, each_record, largest_of_each, EachRecorded, AllRecorded, RefusalRecorded}
use Rattle.contract.specs.declared.records.Recorded.{Recorded}

pub refusal-recorded : (k p : ℕ) (a b : Output) → Writes (head_of (record { outcome = Refused; first = k; second = p })) a b →
    (t u : List ℕ) → a.buffer.now ≡ t → a.written ≡ 0 → b.buffer.now ≡ u →
    RefusalRecorded k p t u (record { outcome = Refused; count = 1; end = b.written })
unfolding recorded head_of outcome first_of second_of written
refusal-recorded k p a b w t u e f g = record { what = refl; many = refl; bytes = rw (append-nil, ← e, ← f, ← g) w.bytes }

-- a refusal is about no entry
refusal-same : (entry : Field) (k p : ℕ) → recorded entry (refused k p) ≡ recorded nothing (refused k p)
unfolding recorded second_of
refusal-same entry k p = refl

-- by the answer to questions 1 to 8
module _ (file : List ℕ) (a : Answered) (e : asked a ≡ ask_file file) where
  -- the longer table has a number for each three bytes
  pub table-enough : a ≡ Ok tt → length file ≤ 32769
  table-enough f = omega (arith, answered-short file a e f)

  pub refused-each : (d : Refusal) → a ≡ Err d → (t u : List ℕ) (r : Recorded) → RefusalRecorded (number_of d.question) d.place t u r → EachRecorded file t u r
  unfolding largest_of_each record_count each_record
  refused-each d f t u r w =
      let h : ask_file file ≡ fails (number_of d.question) d.place = sym e ∙ ap asked f in
      record { what = rw (largest_of_each, h) w.what; many = rw (record_count, h) w.many; bytes = rw (each_record, h) w.bytes }

pub some-there : (n : ℕ) → 0 < n → at_least_one n ≡ n
unfolding at_least_one
some-there zero h = absurd (omega (arith, h))
some-there (suc n) h = refl

module _ (file before u : List ℕ) (r : Recorded) (i : EachRecorded file before u r) where
  -- there are records
  pub some-all : (r.count ≡ 0 → ⊥) → AllRecorded file before u r
  unfolding outcome_of_all largest_of_each records each_record record_count
  some-all h = go (ask_file file) refl
    where
      go : (a : Asked) → ask_file file ≡ a → AllRecorded file before u r
      go (fails k p) e = record { what = rw (outcome_of_all, e) (rw (largest_of_each, e) at i.what); bytes = rw (records, e) (rw (each_record, e) at i.bytes) }
      go passes e =
          let c : r.count ≡ length (entries (fields file)) = rw (record_count, e) at i.many in
          let some : 0 < length (entries (fields file)) = pos_of_ne-zero (λ z. h (c ∙ z)) in
          record {
            what = rw (outcome_of_all, e, some-there (length (entries (fields file))) some) (rw (largest_of_each, e) at i.what);
            bytes = rw (records, e, some-there (length (entries (fields file))) some) (rw (each_record, e) at i.bytes);
          }

  -- there are none, and so the file has passed and has no entries
  module _ (h : r.count ≡ 0) (v : List ℕ) (x : Recorded) (w : RefusalRecorded 9 0 u v x) where
    pub none-all : AllRecorded file before v x
    unfolding outcome_of_all records each_record record_count record_on verdict_on verdict at_least_one largest outcome below flat_map
    none-all = go (ask_file file) refl
      where
        go : (a : Asked) → ask_file file ≡ a → AllRecorded file before v x
        go (fails k p) e = absurd (omega (arith, h, rw (record_count, e) at i.many))
        go passes e =
            let none : length (entries (fields file)) ≡ 0 = omega (arith, h, rw (record_count, e) at i.many) in
            let first : verdict_on file 0 ≡ refused 9 0 = rw (verdict_on, verdict, e) (ninth (fields file) 0 covers_enough (omega (arith, none))) in
            let kept : u ≡ before = rw (each_record, e, none) at i.bytes.kept in
            record {
              what = rw (outcome_of_all, e, none, first) w.what;
              bytes = rw (records, e, none, record_on, first, refusal-same, append-nil, ← kept) w.bytes;
            }
