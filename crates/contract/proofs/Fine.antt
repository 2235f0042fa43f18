-- Each "no" has a small number, and a place in the file: places go up field by field, and the fields take the file's bytes.
use Rattle.std.proofs.Common.{ℕ, zero, suc, ◌+◌, ◌*◌, ◌≤◌, ◌<◌, ◌≡◌, refl, sym, ap, ◌∙◌, Bool, true, false, not, ◌||◌, List, [], ◌∷◌, ◌++◌, arith, leb-true, leb, ltb, length}
use Rattle.std.proofs.Common.{get_or, drop, get_or-drop}
use Rattle.std.proofs.Common.{Option}
use Rattle.std.proofs.Common.{None, Some}
use Rattle.laws.specs.Lists.{any, filter}
use Rattle.laws.specs.Texts.{same_bytes}
use Rattle.laws.proofs.Lists.{Every, every-filter, every-at}
use Rattle.tags.specs.Tag.{State, Entry, is_expression, between}
use Rattle.fields.specs.Field.{Field, Fields, Placed, fields, tag, size, sizes, placed, placed_from}
use Rattle.fields.specs.Field.Field.{field}
use Rattle.fields.specs.Field.Fields.{end, next}
use Rattle.fields.proofs.Inside.{Stands}
use Rattle.fields.proofs.Places.{tree-size}
use Rattle.model.specs.Model.{states, entries, name_of}
use Rattle.grammar.specs.Grammar.{slots_of, advance, complete}
use Rattle.questions.specs.Questions.{Asked, passes, fails, ask, ◌and_then◌, content_allowed, depth_inside, ask_field, ask_fields, ask_names, at_most, ask_form, ask_file}
use Rattle.walking.specs.Walking.{body_exprs, is_payout, payouts}
use Rattle.walking.specs.Table.{placed_at}
use Rattle.entries.specs.Calls.{body_where}
use Rattle.entries.specs.Entered.{nowhere}
use Rattle.claim.specs.Verdict.{backing_count, entry_at, ask_entry}
use Rattle.walking.proofs.Calls.{payout-call}
use Rattle.entries.proofs.Called.{places-small}
use Rattle.verdict.proofs.Asking.{entries-stand}

-- the largest number that fits in two bytes
abbrev pub most_in_two_bytes : ℕ
most_in_two_bytes = 65535

-- a run of questions passes, or fails with a number of two digits and a place up to b
abbrev pub Fine : ℕ → Asked → Type 0
Fine b passes = Unit {0}
Fine b (fails k p) = (k < 100) × (p ≤ b)

module _ (b : ℕ) where
  fine-then : (x y : Asked) → Fine b x → Fine b y → Fine b (x and_then y)
  fine-then passes y f g = g
  fine-then (fails k p) y f g = f

  fine-ask : (t : Bool) (k p : ℕ) → k < 100 → p ≤ b → Fine b (ask t k p)
  fine-ask true k p g h = tt
  fine-ask false k p g h = (g, h)

  -- whether the next field may stand here
  fine-advance : (a : Option (List ℕ)) (outer depth place : ℕ) (f : Field) (fs : Fields) → place ≤ b → Fine b (ask_field depth place f) →
      ((left : List ℕ) → Fine b (ask_fields left outer depth (place + size f) fs)) →
      Fine b (elim a [ None ↦ fails 3 place | Some left ↦ ask_field depth place f and_then ask_fields left outer depth (place + size f) fs ])
  fine-advance None outer depth place f fs h x y = (omega arith, h)
  fine-advance (Some left) outer depth place f fs h x y = fine-then (ask_field depth place f) _ x (y left)

  mutual
    unfolding ask_field size

    fine-field : (depth place : ℕ) (f : Field) → place + size f ≤ b → Fine b (ask_field depth place f)
    fine-field depth place (field t x ps) h =
        fine-then (ask (not (is_expression t) || leb depth 32) 4 place) _ (fine-ask (not (is_expression t) || leb depth 32) 4 place (omega arith) (omega (arith, h)))
        (fine-then (ask (content_allowed t x) 5 place) _ (fine-ask (content_allowed t x) 5 place (omega arith) (omega (arith, h)))
        (fine-fields (slots_of t) place (depth_inside t depth) (place + 3) ps (omega (arith, h)) (omega (arith, h))))

    fine-fields : (slots : List ℕ) (outer depth place : ℕ) (fs : Fields) → outer ≤ b → place + sizes fs ≤ b → Fine b (ask_fields slots outer depth place fs)
    fine-fields slots outer depth place (end []) g h = fine-ask (complete slots) 6 outer (omega arith) g
    fine-fields slots outer depth place (end (x ∷ xs)) g h = (omega arith, omega (arith, h))
    fine-fields slots outer depth place (next f fs) g h =
        fine-advance (advance slots (tag f)) outer depth place f fs (omega (arith, h)) (fine-field depth place f (omega (arith, h)))
        (λ left. fine-fields left outer depth (place + size f) fs g (omega (arith, h)))

  -- places of fields in a row
  abbrev Ends : Placed → Type 0
  Ends p = p.place ≤ b

  row_ends : (n : ℕ) (fs : Fields) → n + sizes fs ≤ b → Every Ends (placed n fs)
  unfolding placed sizes
  row_ends n (end r) h = tt
  row_ends n (next f fs) h = (omega (arith, h), row_ends (n + size f) fs (omega (arith, h)))

  fine_names : (earlier : List (List ℕ)) (ps : List Placed) → Every Ends ps → Fine b (ask_names earlier ps)
  unfolding ask_names
  fine_names earlier [] e = tt
  fine_names earlier (p ∷ ps) e =
      fine-then (ask (not (any (same_bytes (name_of p.this)) earlier)) 7 p.place) _
      (fine-ask (not (any (same_bytes (name_of p.this)) earlier)) 7 p.place (omega arith) e.0)
      (fine_names (earlier ++ name_of p.this ∷ []) ps e.1)

  -- at most n: the place of the next one is asked for
  fine-most : (n k : ℕ) (ps : List Placed) → k < 100 → (d : Placed) → (get_or ps n d).place ≤ b → Fine b (at_most n k ps)
  unfolding at_most
  fine-most n k ps g d h = go (drop n ps) refl
    where
      go : (m : List Placed) → drop n ps ≡ m → Fine b (elim m [ [] ↦ passes | p ∷ rest ↦ fails k p.place ])
      go [] e = tt
      go (p ∷ rest) e =
          let i : get_or ps n d ≡ p = sym (get_or-drop n ps 0 d ∙ ap (λ j. get_or ps j d) (omega arith)) ∙ ap (λ m. get_or m 0 d) e in
          (g, rw i at h)

  ends_at : (ps : List Placed) → Every Ends ps → (n : ℕ) → (get_or ps n nowhere).place ≤ b
  ends_at [] e n = omega arith
  ends_at (p ∷ ps) e zero = e.0
  ends_at (p ∷ ps) e (suc n) = ends_at ps e.1 n

-- an entry stands within the file
pub entry-inside : (file : List ℕ) (n : ℕ) → n < length (entries (fields file)) → (entry_at (fields file) n).place ≤ length file
unfolding entries placed_from
entry-inside file n h =
    let all : Every (Ends (length file)) (placed 0 (fields file)) = row_ends (length file) 0 (fields file) (omega (arith, tree-size file)) in
    every-at (Ends (length file)) (entries (fields file)) (every-filter (Ends (length file)) (λ p. between Entry Entry (tag p.this)) (placed 0 (fields file)) all) n nowhere h

-- of a file that passes question 1
module _ (file : List ℕ) (short : length file ≤ 32768) where
  fields-end : Every (Ends most_in_two_bytes) (placed 0 (fields file))
  fields-end = row_ends most_in_two_bytes 0 (fields file) (omega (arith, short, tree-size file))

  entries-end : Every (Ends most_in_two_bytes) (entries (fields file))
  unfolding entries placed_from
  entries-end = every-filter (Ends most_in_two_bytes) (λ p. between Entry Entry (tag p.this)) (placed 0 (fields file)) fields-end

  states-end : Every (Ends most_in_two_bytes) (states (fields file))
  unfolding states placed_from
  states-end = every-filter (Ends most_in_two_bytes) (λ p. between State State (tag p.this)) (placed 0 (fields file)) fields-end

  fine-short : Fine most_in_two_bytes (ask_file file)
  unfolding ask_file ask_form
  fine-short =
      fine-then most_in_two_bytes (ask_form file) _
      (fine-then most_in_two_bytes (ask (leb (length file) 32768) 1 0) _ (fine-ask most_in_two_bytes (leb (length file) 32768) 1 0 (omega arith) (omega arith))
      (fine-fields most_in_two_bytes (slots_of 0) 0 1 0 (fields file) (omega arith) (omega (arith, short, tree-size file))))
      (fine-then most_in_two_bytes (ask_names [] (states (fields file))) _ (fine_names most_in_two_bytes [] (states (fields file)) states-end)
      (fine-most most_in_two_bytes 64 8 (entries (fields file)) (omega arith) nowhere (ends_at most_in_two_bytes (entries (fields file)) entries-end 64)))

  -- the entry with a number: its payouts are calls, whose places the table of calls holds in two bytes
  module _ (n : ℕ) (h : n < length (entries (fields file))) where
    abbrev entry : Placed
    entry = entry_at (fields file) n

    same : placed_at file entry.place ≡ entry
    same =
        let q : Stands file entry = every-at (Stands file) (entries (fields file)) (entries-stand file) n nowhere h in
        ap (λ x. record { place = entry.place; this = x }) q

    payout-ends : (get_or (body_where is_payout entry) 64 nowhere).place ≤ most_in_two_bytes
    payout-ends =
        let small = places-small file is_payout payout-call entry.place (omega (arith, short)) 64 in
        omega (arith, rw same at small)

    pub fine-entry : (lent : ℕ) → Fine most_in_two_bytes (ask_entry (fields file) n lent)
    unfolding ask_entry
    fine-entry lent =
        fine-then most_in_two_bytes (ask (ltb n (length (entries (fields file)))) 9 0) _ (fine-ask most_in_two_bytes (ltb n (length (entries (fields file)))) 9 0 (omega arith) (omega arith))
        (fine-then most_in_two_bytes (at_most 64 10 (filter (λ p. is_payout p.this) (body_exprs entry))) _
        (fine-most most_in_two_bytes 64 10 (body_where is_payout entry) (omega arith) nowhere payout-ends)
        (fine-then most_in_two_bytes (ask (leb (backing_count entry.this) 64) 11 entry.place) _
        (fine-ask most_in_two_bytes (leb (backing_count entry.this) 64) 11 entry.place (omega arith) (ends_at most_in_two_bytes (entries (fields file)) entries-end n))
        (fine-ask most_in_two_bytes (leb (3 * length (payouts entry.this)) lent) 12 0 (omega arith) (omega arith))))

long-refused : (file : List ℕ) → leb (length file) 32768 ≡ false → ask_file file ≡ fails 1 0
unfolding ask_file ask_form
long-refused file e = cc e

-- of any file
pub fine-file : (file : List ℕ) → Fine most_in_two_bytes (ask_file file)
fine-file file = go (leb (length file) 32768) refl
  where
    go : (b : Bool) → leb (length file) 32768 ≡ b → Fine most_in_two_bytes (ask_file file)
    go true e = fine-short file (leb-true (length file) 32768 e)
    go false e = rw (long-refused file e) (omega arith, omega arith)
