-- The index of a cover that backs a payout fits in two bytes: an entry has few backings, and a file few state fields.
use Rattle.std.proofs.Common.{ℕ, zero, suc, ◌+◌, ◌≤◌, ◌<◌, suc-le-suc, le_trans, arith, ◌≡◌, refl, sym, ap, ◌∙◌, Bool, true, false, ◌&&◌, ◌||◌, List, leb-true, eqb, leb, length, Ok}
use lib.ListN.{length-map}
use Rattle.laws.specs.Lists.{filter}
use Rattle.laws.proofs.Lists.{filter-few}
use Rattle.laws.proofs.Numbered.{numbered-length}
use Rattle.laws.proofs.Truths.{and_right, either}
use Rattle.tags.specs.Tag.{State, between}
use Rattle.fields.specs.Field.{Field, Fields, fields, tag, fields_to, row, fields_from, whole, after}
use Rattle.model.specs.Model.{state_names}
use Rattle.questions.specs.Questions.{Asked, passes, fails, ask, ◌and_then◌, ask_form, ask_file, at_most}
use Rattle.questions.specs.Answers.{Answered, asked as asked_by}
use Rattle.walking.specs.Walking.{debits, asset_params, is_payout, body_exprs}
use Rattle.matching.specs.Matching.{debit_backings, parameter_backings}
use Rattle.claim.specs.Verdict.{backing_count, entry_at, ask_exists, ask_entry}
use Rattle.claim.specs.Claim.{passes_at, backs_equal, backs_bounding, backs_reserve, backs}
use Rattle.claim.proofs.Numbered.{at-below}

-- n bytes have at most n fields in a row
few-fields : (n : ℕ) (s : List ℕ) → length (row (fields_to n s)) ≤ n
unfolding row fields_to
few-fields zero s = omega arith
few-fields (suc n) s = go (whole s) refl (few-fields n)
  where
    go : (k : Bool) → whole s ≡ k → ((t : List ℕ) → length (row (fields_to n t)) ≤ n) → length (row (fields_to (suc n) s)) ≤ suc n
    go true h r = rw (length, row, h) (suc-le-suc (r (after s)))
    go false h r = rw (length, row, h) (omega arith)

pub few-states : (file : List ℕ) → length (state_names (fields file)) ≤ length file
unfolding state_names fields_from fields
few-states file =
    simp length-map (le_trans (filter-few (λ f. between State State (tag f)) (row (fields file))) (few-fields (length file) file))

module _ (model : Fields) (entry : Field) where
  -- as many backings as debits, and as parameters
  debits-length : length (debit_backings model entry) ≡ length (debits entry)
  unfolding debit_backings
  debits-length = simp length-map (numbered-length 0 (debits entry))

  parameters-length : length (parameter_backings entry) ≡ length (asset_params entry)
  unfolding parameter_backings
  parameters-length = simp length-map (numbered-length 0 (asset_params entry))

  -- a cover that backs a payout has an index below the number of backings and state fields
  pub backs-below : (p : Field) (k i : ℕ) → backs model entry p k i ≡ true → i < backing_count entry + length (state_names model)
  unfolding backs backing_count
  backs-below p k i e =
      let a : Bool = passes_at (backs_equal p) (debit_backings model entry) i in
      let b : Bool = passes_at (backs_equal p) (parameter_backings entry) i in
      let c : Bool = passes_at (backs_bounding p) (debit_backings model entry) i in
      let d : Bool = passes_at (backs_bounding p) (parameter_backings entry) i in
      let r : Bool = passes_at (backs_reserve model entry p) (state_names model) i in
      either (eqb k 1 && a || eqb k 2 && b || eqb k 3 && c || eqb k 4 && d) (eqb k 5 && r)
      (either (eqb k 1 && a || eqb k 2 && b || eqb k 3 && c) (eqb k 4 && d)
      (either (eqb k 1 && a || eqb k 2 && b) (eqb k 3 && c)
      (either (eqb k 1 && a) (eqb k 2 && b)
      (λ h. omega (arith, at-below (backs_equal p) _ i (and_right (eqb k 1) a h), debits-length))
      (λ h. omega (arith, at-below (backs_equal p) _ i (and_right (eqb k 2) b h), parameters-length)))
      (λ h. omega (arith, at-below (backs_bounding p) _ i (and_right (eqb k 3) c h), debits-length)))
      (λ h. omega (arith, at-below (backs_bounding p) _ i (and_right (eqb k 4) d h), parameters-length)))
      (λ h. omega (arith, at-below (backs_reserve model entry p) _ i (and_right (eqb k 5) r h))) e

-- of a run of questions that all pass, each passes
pub earlier-asked : (a b : Asked) → a and_then b ≡ passes → a ≡ passes
earlier-asked passes b e = refl
earlier-asked (fails n p) b e = e

pub later-asked : (a b : Asked) → a and_then b ≡ passes → b ≡ passes
later-asked passes b e = e
later-asked (fails n p) b e = cc

pub asked : (a : Bool) (n p : ℕ) → ask a n p ≡ passes → a ≡ true
asked true n p e = refl
asked false n p e = cc

module _ (file : List ℕ) (f : ask_file file ≡ passes) where
  pub short-file : length file ≤ 32768
  unfolding ask_file ask_form
  short-file = leb-true (length file) 32768 (asked (leb (length file) 32768) 1 0 (earlier-asked _ _ (earlier-asked (ask_form file) _ f)))

  module _ (n lent : ℕ) (e : ask_entry (fields file) n lent ≡ passes) where
    few-backings : backing_count (entry_at (fields file) n).this ≤ 64
    unfolding ask_entry
    few-backings =
        let entry = entry_at (fields file) n in
        leb-true (backing_count entry.this) 64 (asked (leb (backing_count entry.this) 64) 11 entry.place (earlier-asked _ _
        (later-asked (at_most 64 10 (filter (λ p. is_payout p.this) (body_exprs entry))) _
        (later-asked (ask_exists (fields file) n) _ e))))

    -- past every check
    pub index-fits : (p : Field) (k i : ℕ) → backs (fields file) (entry_at (fields file) n).this p k i ≡ true → i < 65536
    index-fits p k i h =
        omega (arith, backs-below (fields file) (entry_at (fields file) n).this p k i h, few-backings, few-states file, short-file)

-- by the answer that the code gives
module _ (file : List ℕ) (a : Answered) (e : asked_by a ≡ ask_file file) (h : a ≡ Ok tt) where
  pub answered-passes : ask_file file ≡ passes
  answered-passes = sym e ∙ ap asked_by h

  pub answered-short : length file ≤ 32768
  answered-short = short-file file answered-passes
