-- A statement that lowers a field by an amount has the field as its target, so it is among those that are listed for the amount, by
-- its target's name. Each takes nine bytes at least.
use Rattle.std.proofs.Common.{ℕ, ◌+◌, ◌*◌, ◌≤◌, ◌≡◌, refl, sym, ◌∙◌, Bool, true, false, cond, not, ◌&&◌, ◌||◌, List, [], ◌∷◌, ◌++◌, arith, leb-true, le-leb, eqb, leb}
use Rattle.std.proofs.Common.{length, take, drop, length-append, length-drop}
use mathlib.Core.Bool.{and-false}
use mathlib.Core.List.{flat_map}
use Rattle.laws.proofs.Truths.{chosen, and_left, and_right}
use Rattle.laws.proofs.Texts.{bytes-equal}
use Rattle.laws.specs.Texts.{same_bytes}
use Rattle.laws.specs.Lists.{any}
use Rattle.laws.proofs.Lists.{any-first, Every}
use Rattle.tags.specs.Tag.{Guard, Set, SubtractFrom, ExpressionStatement, Sub, between, is_assign, is_wrapper}
use Rattle.fields.specs.Lists.{Lists}
use Rattle.fields.specs.Row.{Step}
use Rattle.fields.specs.Table.{Listed}
use Rattle.fields.specs.declared.field.Field.{Field as Found}
use Rattle.fields.specs.declared.field.Fields.{Fields as Row}
use Rattle.fields.specs.declared.named.Named.{Named}
use Rattle.fields.specs.declared.table.Table.{Table}
use Rattle.fields.specs.Number.{short_number}
use Rattle.fields.specs.Field.{Field, Fields, Placed, length_of, whole, front, tag, parts, part, nth, nothing, fields, size, sizes, row, fields_from, placed}
use Rattle.fields.specs.Field.Field.{field}
use Rattle.fields.specs.Field.Fields.{end, next}
use Rattle.fields.proofs.Reading.{front-none}
use Rattle.fields.proofs.Places.{front-size, parts-inside, size-least}
use Rattle.fields.proofs.Inside.{Stands, parts-stand}
use Rattle.fields.proofs.Tables.{listed-none, listed-front, listed-long}
use Rattle.fields.proofs.Gathering.{Gathers}
use Rattle.model.specs.Model.{body}
use Rattle.walking.specs.Walking.{peel, peel_first}
use Rattle.walking.specs.Table.{placed_at}
use Rattle.walking.proofs.Numbered.{number-told}
use Rattle.equality.specs.Equality.{expr_eq}
use Rattle.equality.proofs.Equality.{nothing_left}
use Rattle.raises.specs.Raises.{assigns, value, sets_from}
use Rattle.guards.specs.Guards.{contains_wrapping, lowered_by, lowers}
use Rattle.guards.specs.Lowerings.{target, is_lowering, lowering_at, lowering_numbers, lowers_at, lowered_in}

-- What lowers r by the amount is a lowering of the amount whose target is r

module _ (amount : Field) (r : List ℕ) where
  lowers-by : (s : Field) → is_lowering amount s && same_bytes (target s) r ≡ lowers amount r s
  unfolding is_lowering lowers assigns
  lowers-by s = go (is_assign (tag s)) (same_bytes (target s) r) refl refl
    where
      w : Bool
      w = not (contains_wrapping (part 1 s))

      order : (j k : Bool) → j && k ≡ k && j
      order true k = sym (order-true k)
        where
          order-true : (k : Bool) → k && true ≡ k
          order-true true = refl
          order-true false = refl
      order false k = sym (and-false k)

      go : (i j : Bool) → is_assign (tag s) ≡ i → same_bytes (target s) r ≡ j → is_lowering amount s && same_bytes (target s) r ≡ lowers amount r s
      go false j e f = rw e
      go true false e f = rw (f, and-false (is_assign (tag s))) (and-false (is_lowering amount s))
      go true true e f = rw (f, e, bytes-equal (target s) r f) (order _ true ∙ order (expr_eq (lowered_by r s) amount) w)

  statement-tag : (t : ℕ) → is_assign t ≡ true → between Guard ExpressionStatement t ≡ true
  unfolding is_assign
  statement-tag t h =
      let a : Set ≤ t = leb-true Set t (and_left (leb Set t) (leb t SubtractFrom) h) in
      let b : t ≤ SubtractFrom = leb-true t SubtractFrom (and_right (leb Set t) (leb t SubtractFrom) h) in
      rw (le-leb Guard t (omega arith), le-leb t ExpressionStatement (omega arith))

  lowers-statement : (s : Field) → lowers amount r s ≡ true → between Guard ExpressionStatement (tag s) ≡ true
  unfolding lowers assigns
  lowers-statement s h =
      let w : Bool = not (contains_wrapping (part 1 s)) in
      let e : Bool = expr_eq (lowered_by r s) amount in
      statement-tag (tag s) (and_left (is_assign (tag s)) (same_bytes (target s) r) (and_left (assigns r s) w (and_left (assigns r s && w) e h)))

  -- so the parts of an entry that are no statements may be asked too
  any-lowers : (entry : Field) → any (lowers amount r) (row (parts entry)) ≡ any (lowers amount r) (body entry)
  unfolding body fields_from
  any-lowers entry = sym (any-first (lowers amount r) (λ f. between Guard ExpressionStatement (tag f)) lowers-statement (row (parts entry)))

-- An assignment has a target and a value

module _ (amount s : Field) (e : part 1 s ≡ nothing) where
  no_value : value s ≡ nothing
  unfolding value peel peel_first is_wrapper
  no_value = rw e

  lowers-nothing : (r : List ℕ) → lowered_by r s ≡ nothing
  unfolding lowered_by peel peel_first is_wrapper nth
  lowers-nothing r =
      let v : peel (part 1 (value s)) ≡ nothing = rw no_value in
      chosen (λ f. f ≡ nothing) (eqb (tag s) SubtractFrom) no_value (chosen (λ f. f ≡ nothing) (sets_from Sub r s) v refl)

  no-lowering : is_lowering amount s ≡ false
  unfolding is_lowering
  no-lowering = rw (lowers-nothing (target s), nothing_left amount, and-false (is_assign (tag s)))

module _ (amount : Field) where
  pub lowering-size : (s : Field) → is_lowering amount s ≡ true → 9 ≤ size s
  unfolding nth size sizes
  lowering-size (field t x (end r)) h = leb-true 9 (size (field t x (end r))) (cc (no-lowering amount (field t x (end r)) refl))
  lowering-size (field t x (next f (end r))) h = leb-true 9 (size (field t x (next f (end r)))) (cc (no-lowering amount (field t x (next f (end r))) refl))
  lowering-size (field t x (next f (next g gs))) h = omega (arith, size-least f, size-least g)

  at-most-one : (p : Placed) → 9 * length (lowering_at amount p) ≤ size p.this
  unfolding lowering_at
  at-most-one p = go (is_lowering amount p.this) refl
    where
      go : (k : Bool) → is_lowering amount p.this ≡ k →
          9 * length {A = Named} (cond k (record { number = short_number (target p.this); place = p.place } ∷ []) []) ≤ size p.this
      go true e = omega (arith, lowering-size p.this e)
      go false e = omega arith

  -- what is listed of a row
  abbrev pub lowerings_in : ℕ → Fields → List Named
  lowerings_in n fs = flat_map (lowering_at amount) (placed n fs)

  few-lowerings : (n : ℕ) (fs : Fields) → 9 * length (lowerings_in n fs) ≤ sizes fs
  unfolding flat_map placed sizes
  few-lowerings n (end r) = omega arith
  few-lowerings n (next f fs) =
      rw (length-append (lowering_at amount (record { place = n; this = f })) (lowerings_in (n + size f) fs))
      (omega (arith, at-most-one (record { place = n; this = f }), few-lowerings (n + size f) fs))

  pub lowerings : Gathers (λ n f. lowering_at amount (record { place = n; this = f })) lowerings_in
  unfolding flat_map placed
  lowerings =
      record {
        none = λ n r. refl;
        more = λ n f fs. refl;
        few = λ n f. omega (arith, at-most-one (record { place = n; this = f }));
      }

-- The entry at a place of the file

module _ (amount : Field) (file : List ℕ) (place : ℕ) where
  parts-few : sizes (parts (front (drop place file))) ≤ length file
  unfolding sizes
  parts-few = go (whole (drop place file)) refl
    where
      go : (w : Bool) → whole (drop place file) ≡ w → sizes (parts (front (drop place file))) ≤ length file
      go true w =
          omega (arith, parts-inside (front (drop place file)), front-size (drop place file) w, leb-true (3 + length_of (drop place file)) (length (drop place file)) w, length-drop place file)
      go false w = rw (front-none (drop place file) w) (omega arith)

  -- what list_lowerings lists finds room in a table of one for each nine bytes of the file
  pub lowerings-room : (table last : List Named) (count : ℕ) → Listed (lowering_numbers amount (placed_at file place)) table 0 last count →
      length file ≤ 9 * length table → count ≤ length last
  unfolding lowering_numbers
  lowerings-room table last count l k =
      let w = listed-long l in omega (arith, w, l.count, few-lowerings amount (place + 3) (parts (front (drop place file))), parts-few, k)

  pub lowerings-listed : (table : List Named) (last : Table Named) → Listed (lowering_numbers amount (placed_at file place)) table 0 last.items.now last.count →
      length file ≤ 9 * length table → (ls : List Named) → ls ≡ take last.count last.items.now → ls ≡ lowering_numbers amount (placed_at file place)
  unfolding lowering_numbers
  lowerings-listed table last l k ls e =
      e ∙ listed-front (lowering_numbers amount (placed_at file place)) table last.items.now last.count l
      (omega (arith, l.count, few-lowerings amount (place + 3) (parts (front (drop place file))), parts-few, k))

-- Among them one has the target r where some statement lowers r

module _ (amount : Field) (file r : List ℕ) where
  one-read : (n : ℕ) (f : Field) → front (drop n file) ≡ f → (ls : List Named) →
      lowered_in file r (lowering_at amount (record { place = n; this = f }) ++ ls) ≡ lowers amount r f || lowered_in file r ls
  unfolding lowering_at lowers_at
  one-read n f e ls = go (is_lowering amount f) refl
    where
      go : (k : Bool) → is_lowering amount f ≡ k →
          lowered_in file r (cond k (record { number = short_number (target f); place = n } ∷ []) [] ++ ls) ≡ lowers amount r f || lowered_in file r ls
      go true i = rw (e, number-told (target f) r, ← lowers-by amount r f, i)
      go false i = rw (← lowers-by amount r f, i)

  row-read : (n : ℕ) (fs : Fields) → Every (Stands file) (placed n fs) → lowered_in file r (lowerings_in amount n fs) ≡ any (lowers amount r) (row fs)
  unfolding flat_map placed row
  row-read n (end z) e = refl
  row-read n (next f fs) e = one-read n f e.0 (lowerings_in amount (n + size f) fs) ∙ rw (row-read (n + size f) fs e.1)

pub lowerings-decide : (amount : Field) (file : List ℕ) (place : ℕ) (r : List ℕ) →
    lowered_in file r (lowering_numbers amount (placed_at file place)) ≡ any (lowers amount r) (body (front (drop place file)))
unfolding lowering_numbers
lowerings-decide amount file place r =
    row-read amount file r (place + 3) (parts (front (drop place file))) (parts-stand file (placed_at file place) refl)
    ∙ any-lowers amount r (front (drop place file))

-- What the code lists

module _ (amount : Field) (file : List ℕ) (place : ℕ) (s : Row) (e : s.rest.now ≡ drop place file) (t : List Named) (none : Table Named)
    (i : none.items.now ≡ t) (z : none.count ≡ 0) where
  pub no-entry : whole s.rest.now ≡ false → Listed (lowering_numbers amount (placed_at file place)) t 0 none.items.now none.count
  unfolding lowering_numbers flat_map placed
  no-entry w = rw (← e, front-none s.rest.now w, i, z) (listed-none t 0)

  module _ (k : s.place ≡ place) (f : Found) (b : Row) (h : Step s f b) (x all : Row) (g : all ≡ x) (y : x.place ≡ f.place + 3) where
    pub parts-listed : fields x.rest.now ≡ parts (front f.part.now) →
        (u : Table Named) → Lists (lowerings_in amount all.place (fields all.rest.now)) none u → Listed (lowering_numbers amount (placed_at file place)) t 0 u.items.now u.count
    unfolding lowering_numbers
    parts-listed l u p = rw (← e, ← h.part, ← l) (rw (g, y, h.place, k, i, z) at p.listed)
