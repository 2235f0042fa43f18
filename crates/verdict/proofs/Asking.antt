-- Questions 9 to 12: the first "no" is the verdict, and where there is none the matching is.
use Rattle.std.proofs.Common.{ℕ, ◌≤◌, ◌<◌, ◌≡◌, refl, sym, ap, ◌∙◌, Bool, true, false, List, [], ◌∷◌, arith, lt-ltb, le-ltb, ltb-true, ltb-false, ltb, length, get_or, drop}
use Rattle.std.proofs.Common.{take_all}
use mathlib.Core.Bool.{false≢true}
use Rattle.std.proofs.Common.{Option, Some, None, IfSome, Result, Ok, Err, zero, suc, ◌+◌}
use Rattle.questions.specs.declared.question.Refusal.{Refusal}
use Rattle.std.specs.List.{slice_get}
use Rattle.std.specs.Option.{option_map, ok_or}
use Rattle.std.proofs.lemmas.Option.{slice_get_within, get_or_from_slice_get}
use Rattle.laws.proofs.Lists.{Every, every-filter, every-at, every-weaker}
use Rattle.fields.specs.Field.{Fields, Placed, fields, nothing, placed, placed_from, size, sizes}
use Rattle.fields.specs.Field.Fields.{end, next}
use Rattle.fields.specs.Row.{shown as found}
use Rattle.fields.specs.declared.field.Field.{Field}
use Rattle.fields.proofs.Places.{tree-size}
use Rattle.fields.proofs.Inside.{Stands, row-stands}
use Rattle.model.specs.Model.{entries}
use Rattle.walking.specs.Walking.{is_payout}
use Rattle.walking.specs.Table.{placed_at}
use Rattle.questions.specs.Questions.{at_most}
use Rattle.entries.specs.Calls.{body_where}
use Rattle.claim.specs.Verdict.{refused, entry_at, ask_entry, entry_verdict}
use Rattle.verdict.specs.Coded.{placed_verdict, backed_verdict}
use Rattle.verdict.specs.Place.{place_of_entry, no_entry}

-- Question 9: the entry that is shown

abbrev no-entry : Placed
no-entry = record { place = 0; this = nothing }

pub entries-stand : (file : List ℕ) → Every (Stands file) (entries (fields file))
unfolding entries placed_from
entries-stand file =
    let all : Every (Stands file) (placed 0 (fields file)) = rw (take_all (length file) file (omega arith)) at (row-stands file 0 (length file)) in
    every-filter (Stands file) _ (placed 0 (fields file)) all

-- and stands no further than the file's end
row-inside : (fs : Fields) (k : ℕ) → Every (λ p. p.place ≤ k + sizes fs) (placed k fs)
unfolding placed sizes
row-inside (end r) k = tt
row-inside (next f fs) k =
    (omega arith, every-weaker (λ p. p.place ≤ k + size f + sizes fs) (λ p. p.place ≤ k + (size f + sizes fs)) (λ p h. omega arith) (placed (k + size f) fs) (row-inside fs (k + size f)))

entries-inside : (file : List ℕ) → Every (λ p. p.place ≤ length file) (entries (fields file))
unfolding entries placed_from
entries-inside file =
    every-filter (λ p. p.place ≤ length file) _ (placed 0 (fields file))
    (every-weaker (λ p. p.place ≤ 0 + sizes (fields file)) (λ p. p.place ≤ length file) (λ p h. omega (arith, tree-size file)) (placed 0 (fields file)) (row-inside (fields file) 0))

none-got : (l : List Placed) (n : ℕ) → slice_get l n ≡ None → length l ≤ n
none-got [] n e = omega arith
none-got (p ∷ l) zero e = cc
none-got (p ∷ l) (suc n) e = let h = none-got l n e in omega (arith, h)

module _ (file : List ℕ) (n : ℕ) where
  -- an entry stands at its place
  stands-there : n < length (entries (fields file)) → entry_at (fields file) n ≡ placed_at file (entry_at (fields file) n).place
  stands-there h =
      let q : Stands file (entry_at (fields file) n) = every-at (Stands file) (entries (fields file)) (entries-stand file) n no-entry h in
      ap (λ x. record { place = (entry_at (fields file) n).place; this = x }) (sym q)

  -- the entry that was found, or there is none
  pub place-got : (r : Option Field) → option_map found r ≡ slice_get (entries (fields file)) n → option_map (λ p. p.place) r ≡ place_of_entry file n
  unfolding place_of_entry
  place-got None e = rw (le-ltb n (length (entries (fields file))) (none-got (entries (fields file)) n (sym e)))
  place-got (Some p) e =
      rw (lt-ltb n (length (entries (fields file))) (slice_get_within (entries (fields file)) n (found p) (sym e)))
      (ap (λ q. Some q.place) (sym (get_or_from_slice_get (entries (fields file)) n (found p) no-entry (sym e))))

  pub place-inside : (r : Option Field) → option_map found r ≡ slice_get (entries (fields file)) n → IfSome (option_map (λ p. p.place) r) (λ place. place ≤ length file)
  place-inside None e = tt
  place-inside (Some p) e =
      let here : n < length (entries (fields file)) = slice_get_within (entries (fields file)) n (found p) (sym e) in
      let low : (get_or (entries (fields file)) n no-entry).place ≤ length file =
      every-at (λ q. q.place ≤ length file) (entries (fields file)) (entries-inside file) n no-entry here in
      rw (get_or_from_slice_get (entries (fields file)) n (found p) no-entry (sym e)) at low

  module _ (r : Option ℕ) (v : r ≡ place_of_entry file n) where
    pub entry-missing : r ≡ None → length (entries (fields file)) ≤ n
    unfolding place_of_entry
    entry-missing f = go v (ltb n (length (entries (fields file)))) refl
      where
        go : r ≡ place_of_entry file n → (b : Bool) → ltb n (length (entries (fields file))) ≡ b → length (entries (fields file)) ≤ n
        go e true h = absurd (false≢true cc)
        go e false h = ltb-false n (length (entries (fields file))) h

    module _ (place : ℕ) (f : r ≡ Some place) where
      counted-there : (n < length (entries (fields file))) × ((entry_at (fields file) n).place ≡ place)
      unfolding place_of_entry
      counted-there = go v (ltb n (length (entries (fields file)))) refl
        where
          go : r ≡ place_of_entry file n → (b : Bool) → ltb n (length (entries (fields file))) ≡ b →
              (n < length (entries (fields file))) × ((entry_at (fields file) n).place ≡ place)
          go e true h = (ltb-true n (length (entries (fields file))) h, (cc))
          go e false h = absurd (false≢true cc)

      pub entry-counted : n < length (entries (fields file))
      entry-counted = counted-there.0

      pub entry-there : entry_at (fields file) n ≡ placed_at file place
      entry-there = stands-there entry-counted ∙ ap (placed_at file) counted-there.1

-- what is answered is the place, or the "no"
module _ (file : List ℕ) (n : ℕ) (q : Result ℕ Refusal) (e : q ≡ ok_or (place_of_entry file n) no_entry) where
  pub place-missing : (d : Refusal) → q ≡ Err d → (place_of_entry file n ≡ None) × (d ≡ no_entry)
  place-missing d f = go (place_of_entry file n) refl
    where
      go : (r : Option ℕ) → place_of_entry file n ≡ r → (place_of_entry file n ≡ None) × (d ≡ no_entry)
      go None g = (g, cc (rw g at e))
      go (Some place) g = cc (rw g at e)

  pub place-found : (place : ℕ) → q ≡ Ok place → place_of_entry file n ≡ Some place
  place-found place f = go (place_of_entry file n) refl
    where
      go : (r : Option ℕ) → place_of_entry file n ≡ r → place_of_entry file n ≡ Some place
      go None g = cc (rw g at e)
      go (Some x) g = cc (rw g at e)

-- Question 9: the "no", or the verdict past it

module _ (model : Fields) (n lent : ℕ) where
  pub ninth : length (entries model) ≤ n → entry_verdict model n lent ≡ refused 9 0
  unfolding entry_verdict ask_entry
  ninth h = cc (le-ltb n (length (entries model)) h)

  pub not-ninth : n < length (entries model) → (e : Placed) → entry_at model n ≡ e → entry_verdict model n lent ≡ placed_verdict model e lent
  unfolding entry_verdict ask_entry placed_verdict
  not-ninth h e f = cc (lt-ltb n (length (entries model)) h)

-- Question 10: the "no", or the verdict past it

module _ (model : Fields) (e : Placed) (lent : ℕ) where
  pub tenth : (p : Placed) (ps : List Placed) → drop 64 (body_where is_payout e) ≡ p ∷ ps → placed_verdict model e lent ≡ refused 10 p.place
  unfolding placed_verdict at_most
  tenth p ps k = cc k

  pub not-tenth : drop 64 (body_where is_payout e) ≡ [] → placed_verdict model e lent ≡ backed_verdict model e lent
  unfolding placed_verdict backed_verdict at_most
  not-tenth k = cc k
