-- A file that a question refuses has that verdict, and one that passes is short enough for its entries to be asked about.
use Rattle.std.proofs.Common.{ℕ, ◌≡◌, List, length, arith, Ok, Err}
use Rattle.fields.specs.Field.{fields}
use Rattle.questions.specs.Questions.{ask_file}
use Rattle.questions.specs.Answers.{Answered, number_of, asked}
use Rattle.questions.specs.declared.question.Refusal.{Refusal}
use Rattle.claim.specs.Verdict.{refused, entry_at, entry_verdict, verdict, written}
use Rattle.claim.proofs.Fitting.{answered-passes, answered-short}
use Rattle.verdict.specs.Coded.{Told, numbers_of, numbers}
use Rattle.verdict.specs.declared.entry.Objection.TheVariants.{Refused}
use Rattle.verdict.proofs.Placing.{handed-on, told-refused, left-refused}
use Rattle.verdict.proofs.file.file_verdict.Goals as goal

module _ (file : List ℕ) (a : Answered) (e : asked a ≡ ask_file file) where
  module _ (h : a ≡ Ok tt) (n : ℕ) (lent : List ℕ) where
    same : verdict file n (length lent) ≡ entry_verdict (fields file) n (length lent)
    unfolding verdict
    same = cc (answered-passes file a e h)

    told-passed : (x : Told) → numbers_of x ≡ numbers (entry_at (fields file) n).this (entry_verdict (fields file) n (length lent)) →
        numbers_of x ≡ numbers (entry_at (fields file) n).this (verdict file n (length lent))
    told-passed x f = rw same f

    left_passed : (left : List ℕ) → left ≡ written (entry_verdict (fields file) n (length lent)) lent → left ≡ written (verdict file n (length lent)) lent
    left_passed left f = rw same f

  module _ (d : Refusal) (h : a ≡ Err d) (n : ℕ) (lent : List ℕ) where
    no : verdict file n (length lent) ≡ refused (number_of d.question) d.place
    unfolding verdict
    no = cc

    told-no : numbers_of (Err (Refused d)) ≡ numbers (entry_at (fields file) n).this (verdict file n (length lent))
    told-no = told-refused (verdict file n (length lent)) d no (entry_at (fields file) n).this

    left-no : lent ≡ written (verdict file n (length lent)) lent
    left-no = left-refused (verdict file n (length lent)) d no lent

pub returns-in_err-check_file-clause-answer : goal.returns-in_err-check_file-clause-answer
returns-in_err-check_file-clause-answer c =
    let was : c.check_file.result ≡ Err c.in_err-check_file.field-0.0 = grind arith in
    handed-on _ _ _ c.from_residual.ensures.1 (search told-no)

pub returns-in_err-check_file-clause-covers : goal.returns-in_err-check_file-clause-covers
returns-in_err-check_file-clause-covers c =
    let was : c.check_file.result ≡ Err c.in_err-check_file.field-0.0 = grind arith in
    search left-no

pub entry_verdict-requires : goal.entry_verdict-requires
entry_verdict-requires c =
    let passed : c.check_file.result ≡ Ok tt = grind arith in
    search answered-short

pub returns-clause-answer : goal.returns-clause-answer
returns-clause-answer c =
    let passed : c.check_file.result ≡ Ok tt = grind arith in
    search told-passed

pub returns-clause-covers : goal.returns-clause-covers
returns-clause-covers c =
    let passed : c.check_file.result ≡ Ok tt = grind arith in
    search left_passed
