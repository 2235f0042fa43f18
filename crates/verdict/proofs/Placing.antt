-- Questions 9 to 12: the first "no" is the verdict, and where there is none the matching is.
use Rattle.std.proofs.Common.{ℕ, ◌*◌, ◌≤◌, ◌<◌, ◌≡◌, refl, sym, ap, ◌∙◌, Bool, true, false, List, [], arith, leb-true, leb-false, leb, length, get_or, drop_of_length-le, drop-cons, Ok, Err}
use Rattle.std.proofs.Common.{Some, Result}
use Rattle.std.specs.Option.{ok_or}
use Rattle.std.specs.Result.{IsErrAnd}
use lib.ListN.{length-map}
use Rattle.laws.proofs.Lists.{no-elements}
use Rattle.fields.specs.Field.{Field, Placed, fields}
use Rattle.questions.specs.Questions.{ask, at_most, ◌and_then◌}
use Rattle.questions.specs.Questions.Asked.{passes, fails}
use Rattle.questions.specs.Answers.{Answered, number_of, asked}
use Rattle.questions.specs.declared.question.Refusal.{Refusal}
use Rattle.walking.specs.Walking.{is_payout, payouts}
use Rattle.walking.specs.Table.{placed_at}
use Rattle.entries.specs.Calls.{body_where}
use Rattle.entries.specs.Entered.{Read, Entered, entry_of, nowhere}
use Rattle.entries.specs.declared.entry.Entry.{Entry}
use Rattle.entries.proofs.Called.{payouts-where}
use Rattle.entries.proofs.Reading.{entered}
use Rattle.claim.specs.Verdict.{Verdict, refused, accepted, match_from, matching, backing_count, spare, entry_at, entry_verdict, sheet, written}
use Rattle.claim.specs.Verdict.{first_of, second_of}
use Rattle.verdict.specs.Coded.{Told, numbers_of, numbers, ask_counted, ask_placed, placed_verdict, placed_answer, placed_covers, entry_answer, entry_covers}
use Rattle.verdict.specs.Place.{place_of_entry, no_entry}
use Rattle.verdict.specs.declared.entry.Objection.TheVariants.{Refused}
use Rattle.verdict.specs.declared.numbers.Numbers.{Numbers}
use Rattle.verdict.proofs.Asking.{ninth, not-ninth, entry-missing, entry-counted, entry-there, place-missing, place-found}

-- a refusal writes nothing
module _ (v : Verdict) (d : Refusal) (e : v ≡ refused (number_of d.question) d.place) where
  pub told-refused : (entry : Field) → numbers_of (Err (Refused d)) ≡ numbers entry v
  unfolding numbers_of numbers first_of second_of
  told-refused entry = rw e

  pub left-refused : (t : List ℕ) → t ≡ written v t
  unfolding written
  left-refused t = rw e

-- and where it is handed on by `?`, it is the verdict
pub handed-on : (d : Refusal) (x : Numbers) (v : Told) → IsErrAnd v (λ o. o ≡ Refused d) → numbers_of (Err (Refused d)) ≡ x → numbers_of v ≡ x
handed-on d x (Ok a) h e = absurd h
handed-on d x (Err o) h e = rw h e

-- Questions 10 to 12, of an entry as it is read

module _ (file : List ℕ) (en : Entry) (v : Read file en) (lent : List ℕ) where
  abbrev here : Placed
  here = placed_at file en.place

  abbrev this : Field
  this = entry_of file en.place

  abbrev those : List Placed
  those = body_where is_payout here

  many : en.payouts ≡ length those
  many = v.many ∙ ap length (sym (payouts-where here)) ∙ length-map those (λ p. p.this)

  all : en.total ≡ backing_count this
  unfolding backing_count
  all = omega (arith, v.all, v.counted)

  ten-same : ask (leb en.payouts 64) 10 (get_or en.paid 64 0) ≡ at_most 64 10 those
  unfolding at_most
  ten-same = go (leb en.payouts 64) refl
    where
      go : (b : Bool) → leb en.payouts 64 ≡ b → ask (leb en.payouts 64) 10 (get_or en.paid 64 0) ≡ at_most 64 10 those
      go true h = rw (h, at_most, drop_of_length-le those {i = 64} (omega (arith, many, leb-true en.payouts 64 h)))
      go false h =
          let l : 64 < en.payouts = leb-false en.payouts 64 h in
          rw (h, at_most, drop-cons those 64 nowhere (omega (arith, l, many))) (ap (λ n. fails 10 n) (v.last l))

  asked-same : ask_counted en (length lent) ≡ ask_placed here (length lent)
  unfolding ask_counted
  asked-same = rw (ten-same, all, v.many)

  abbrev told : Told → Type 0
  told x = numbers_of x ≡ placed_answer file en.place (length lent)

  abbrev left : List ℕ → Type 0
  left t = t ≡ placed_covers file en.place lent

  module _ (a : Answered) (e : asked a ≡ ask_counted en (length lent)) where
    module _ (d : Refusal) (h : a ≡ Err d) where
      no : placed_verdict (fields file) here (length lent) ≡ refused (number_of d.question) d.place
      unfolding placed_verdict
      no = let f : ask_placed here (length lent) ≡ fails (number_of d.question) d.place = sym (e ∙ asked-same) ∙ ap asked h in cc

      pub told-no : told (Err (Refused d))
      told-no = told-refused (placed_verdict (fields file) here (length lent)) d no this

      pub left-no : left lent
      left-no = left-refused (placed_verdict (fields file) here (length lent)) d no lent

    module _ (h : a ≡ Ok tt) where
      counts : (x y z : Bool) → ask x 10 (get_or en.paid 64 0) and_then ask y 11 en.place and_then ask z 12 0 ≡ passes → (x ≡ true) × (y ≡ true) × (z ≡ true)
      counts true true true f = (refl, refl, refl)
      counts true true false f = (refl, refl, (cc))
      counts true false z f = (refl, (cc), (cc))
      counts false y z f = ((cc), (cc), (cc))

      passed : (leb en.payouts 64 ≡ true) × (leb en.total 64 ≡ true) × (leb (3 * en.payouts) (length lent) ≡ true)
      unfolding ask_counted
      passed = counts (leb en.payouts 64) (leb en.total 64) (leb (3 * en.payouts) (length lent)) (sym e ∙ ap asked h)

      pub entered-passed : Entered file en
      entered-passed = entered file en v (leb-true en.payouts 64 passed.0) (leb-true en.total 64 passed.1)

      pub room-passed : 3 * en.payouts ≤ length lent
      room-passed = leb-true (3 * en.payouts) (length lent) passed.2

      matched : placed_verdict (fields file) here (length lent) ≡ matching (fields file) this
      unfolding placed_verdict
      matched = let f : ask_placed here (length lent) ≡ passes = sym (e ∙ asked-same) ∙ ap asked h in cc

      pub told-matched : (x : Told) → numbers_of x ≡ numbers this (matching (fields file) this) → told x
      told-matched x f = rw matched f

      pub left-matched : (t : List ℕ) → t ≡ written (matching (fields file) this) lent → left t
      left-matched t f = rw matched f

      -- without payouts nothing is to be matched
      module _ (z : en.payouts ≡ 0) where
        nothing-paid : payouts this ≡ []
        nothing-paid = no-elements (payouts this) (sym v.many ∙ z)

        nothing-matched : placed_verdict (fields file) here (length lent) ≡ accepted []
        unfolding matching match_from
        nothing-matched = matched ∙ rw (matching, nothing-paid)

        pub told-unpaid : told (Ok (record { payouts = 0; spare = en.total }))
        unfolding numbers_of numbers first_of second_of spare
        told-unpaid = rw nothing-matched (ap (λ n. numbers_of (Ok (record { payouts = 0; spare = n }))) (omega (arith, all, ap length nothing-paid)))

        pub left-unpaid : left lent
        unfolding written sheet
        left-unpaid = rw nothing-matched

-- the entry that was read is the one at the place
module _ (file : List ℕ) (n place : ℕ) (e : n ≡ place) where
  pub told-there : (lent : ℕ) (x : Told) → numbers_of x ≡ placed_answer file n lent → numbers_of x ≡ placed_answer file place lent
  told-there lent x f = rw (← e) f

  pub left_there : (t u : List ℕ) → t ≡ placed_covers file n u → t ≡ placed_covers file place u
  left_there t u f = rw (← e) f

-- Question 9

module _ (file : List ℕ) (n : ℕ) (q : Result ℕ Refusal) (e : q ≡ ok_or (place_of_entry file n) no_entry) (lent : List ℕ) where
  module _ (d : Refusal) (f : q ≡ Err d) where
    ninth-refused : entry_verdict (fields file) n (length lent) ≡ refused (number_of d.question) d.place
    ninth-refused =
        let none = place-missing file n q e d f in
        rw none.1 (ninth (fields file) n (length lent) (entry-missing file n (place_of_entry file n) refl none.0))

    pub told-ninth : numbers_of (Err (Refused d)) ≡ entry_answer file n (length lent)
    told-ninth = told-refused (entry_verdict (fields file) n (length lent)) d ninth-refused (entry_at (fields file) n).this

    pub left-ninth : lent ≡ entry_covers file n lent
    left-ninth = left-refused (entry_verdict (fields file) n (length lent)) d ninth-refused lent

  module _ (place : ℕ) (f : q ≡ Ok place) where
    some : place_of_entry file n ≡ Some place
    some = place-found file n q e place f

    there : entry_at (fields file) n ≡ placed_at file place
    there = entry-there file n (place_of_entry file n) refl place some

    past-ninth : entry_verdict (fields file) n (length lent) ≡ placed_verdict (fields file) (placed_at file place) (length lent)
    past-ninth = not-ninth (fields file) n (length lent) (entry-counted file n (place_of_entry file n) refl place some) (placed_at file place) there

    pub told-placed : (x : Told) → numbers_of x ≡ placed_answer file place (length lent) → numbers_of x ≡ entry_answer file n (length lent)
    told-placed x g = rw (past-ninth, there) g

    pub left-placed : (left : List ℕ) → left ≡ placed_covers file place lent → left ≡ entry_covers file n lent
    left-placed left g = rw past-ninth g
