-- The n-th of a class is the n-th of the row that passes its range.
use Rattle.std.proofs.Common.{ℕ, ◌+◌, ◌≡◌, refl, sym, ap, ◌∙◌, Bool, List, [], ◌∷◌, Option, None, Some, IfSome, filter, map, get_or}
use Rattle.std.specs.List.{slice_get}
use Rattle.std.specs.Option.{option_map, unwrap_or}
use Rattle.std.proofs.lemmas.Option.{slice_get-map, slice_get_within, get_or_from_slice_get, unwrap_or-slice_get}
use Rattle.laws.proofs.Lists.{Every, every-at, every-filter}
use Rattle.tags.specs.Tag.{between}
use Rattle.fields.specs.Field.{Field, Fields, Placed, fields, tag, part, parts, nth, nothing, placed, placed_parts, fields_from, placed_from}
use Rattle.fields.specs.Field.Fields.{end, next}
use Rattle.fields.specs.Row.{shown as found, left, reach, end_of, Steps}
use Rattle.fields.specs.declared.field.Field.{Field as Found}
use Rattle.fields.specs.declared.field.Fields.{Fields as Remaining}
use Rattle.fields.proofs.InARow.{placed-end, left-next, reaching}
use Rattle.fields.proofs.Rows.{placed_row}
use Rattle.model.specs.Shown.{this_of, or_nothing}

-- the first of some fields, or nothing
first : List Placed → Field
first [] = nothing
first (p ∷ ps) = p.this

nth-first : (fs : Fields) (k : ℕ) → nth 0 fs ≡ first (placed k fs)
unfolding nth placed first
nth-first (end r) k = refl
nth-first (next f fs) k = refl

-- a step into the parts of a field gives the first
first-part : (g : Found) (row t : Remaining) → left row ≡ placed_parts (found g) → (o : Option Found) → Steps row o t → or_nothing o ≡ part 0 (this_of g)
unfolding first
first-part g row t l None w = sym (nth-first (parts (this_of g)) (g.place + 3) ∙ ap first (sym l) ∙ ap first (placed-end row.rest.now w row.place))
first-part g row t l (Some p) w = sym (nth-first (parts (this_of g)) (g.place + 3) ∙ ap first (sym l) ∙ ap first (left-next row p t w))

-- the part that starts with each ends where the row does
module _ (row : Remaining) (test : Placed → Bool) (n : ℕ) where
  abbrev Reaches : Placed × ℕ → Type 0
  Reaches q = q.1 ≡ end_of row

  all-reach : (l : List Placed) → Every Reaches (map (λ p. (p, end_of row)) l)
  all-reach [] = tt
  all-reach (p ∷ l) = (refl, all-reach l)

  pub nth-reach : (r : Option Found) → option_map (λ p. (found p, reach p)) r ≡ slice_get (filter (λ q. test q.0) (reaching row)) n →
      IfSome r (λ p. reach p ≡ end_of row)
  nth-reach None e = tt
  nth-reach (Some p) e =
      let l : List (Placed × ℕ) = filter (λ q. test q.0) (reaching row) in
      let d : Placed × ℕ = (found p, reach p) in
      let all : Every Reaches l = every-filter Reaches (λ q. test q.0) (reaching row) (all-reach (left row)) in
      let here : Reaches (get_or l n d) = every-at Reaches l all n d (slice_get_within l n d (sym e)) in
      ap (λ q. q.1) (sym (get_or_from_slice_get l n d d (sym e))) ∙ here

module _ (low high n : ℕ) (s file : List ℕ) (e : s ≡ file) (k : ℕ) (r : Option Found)
    (q : option_map found r ≡ slice_get (filter (λ p. between low high (tag p.this)) (placed k (fields s))) n) where
  -- with its place
  pub found-nth : k ≡ 0 → option_map found r ≡ slice_get (placed_from low high 0 (fields file)) n
  unfolding placed_from
  found-nth z = rw (← e, ← z) q

  -- without
  of-row : option_map this_of r ≡ slice_get (fields_from low high (fields file)) n
  unfolding placed_from
  of-row = go r ∙ ap (option_map (λ x. x.this)) q ∙ sym (slice_get-map (λ x. x.this) (placed_from low high k (fields s)) n) ∙ rw (placed_row, e)
    where
      go : (o : Option Found) → option_map this_of o ≡ option_map (λ x. x.this) (option_map found o)
      go None = refl
      go (Some x) = refl

  pub part-nth : (f : Field) → fields file ≡ parts f → (at : ℕ) → k ≡ at → option_map found r ≡ slice_get (placed_from low high at (parts f)) n
  unfolding placed_from
  part-nth f p at z = rw (← p, ← e, ← z) q

  pub this-nth : (f : Field) → fields file ≡ parts f → option_map this_of r ≡ slice_get (fields_from low high (parts f)) n
  this-nth f p = rw (← p) of-row

  -- the first part of it
  inner : unwrap_or (option_map (part 0) (option_map this_of r)) nothing ≡ get_or (map (part 0) (fields_from low high (fields file))) n nothing
  inner =
      ap (λ o. unwrap_or (option_map (part 0) o) nothing) of-row
      ∙ ap (λ o. unwrap_or o nothing) (sym (slice_get-map (part 0) (fields_from low high (fields file)) n))
      ∙ unwrap_or-slice_get (map (part 0) (fields_from low high (fields file))) n nothing

  pub inner-none : r ≡ None → nothing ≡ get_or (map (part 0) (fields_from low high (fields file))) n nothing
  inner-none h = rw h at inner

  pub inner-nth : (g : Found) → r ≡ Some g → (row t : Remaining) → left row ≡ placed_parts (found g) → (o : Option Found) → Steps row o t →
      or_nothing o ≡ get_or (map (part 0) (fields_from low high (fields file))) n nothing
  inner-nth g h row t l o w = first-part g row t l o w ∙ (rw h at inner)

  -- and where it stands
  pub inner-place : k ≡ 0 → (g : Found) → r ≡ Some g → (row t : Remaining) → row.place ≡ g.place + 3 → (o : Option Found) → Steps row o t →
      IfSome o (λ p. IfSome (slice_get (placed_from low high 0 (fields file)) n) (λ h. p.place ≡ h.place + 3))
  inner-place z g h row t l None w = tt
  inner-place z g h row t l (Some p) w = rw (← found-nth z, h) (w.place ∙ l)
