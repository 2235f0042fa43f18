-- What a caller of the listing knows: each condition stands in the entry at its place, which two bytes hold beside the mark,
-- so the numbers of the table give the conditions back; and there are few of them.
use Rattle.std.proofs.Common.{ℕ, ◌+◌, ◌*◌, ◌%◌, ◌≤◌, ◌<◌, ◌≡◌, refl, Bool, true, false, List, [], ◌∷◌, map, arith, mod-eq_of_lt, leb-true, le-leb, eqb, length, take, drop}
use borrow.Author.Tests.{lt-leb}
use lib.ListN.{length-map}
use Rattle.laws.proofs.Lists.{Every, every_append, every-filter, every-flat_map}
use Rattle.laws.proofs.Truths.{chosen}
use Rattle.tags.specs.Tag.{Limits, Denies, Guard, Not, Or, And, Eq, Ge, between}
use Rattle.fields.specs.Field.{Field, Fields, Placed, length_of, whole, front, tag, parts, size, sizes, placed, placed_parts, placed_from}
use Rattle.fields.specs.Field.Field.{field}
use Rattle.fields.specs.Field.Fields.{end, next}
use Rattle.fields.specs.Table.{Listed}
use Rattle.fields.proofs.Places.{front-size, parts-inside}
use Rattle.fields.proofs.Inside.{Stands, parts-stand}
use Rattle.fields.proofs.Tables.{listed-front}
use Rattle.conditions.specs.Conditions.{Condition, split_and, split_each, split_first, negated, negated_each, negated_first, conditions_of, conditions_from, required_conditions}
use Rattle.conditions.specs.Table.{mark, marks, condition_at, conditions_at}
use Rattle.conditions.proofs.Few.{conditions-few}

-- What goes from a field to its parts holds of every condition in it

-- it holds of a condition's expression, at its place
abbrev pub Holds : (Placed → Type 0) → Condition → Type 0
Holds P c = P (record { place = c.place; this = c.this })

module _ (P : Placed → Type 0) (down : (p : Placed) → P p → Every P (placed_parts p)) where
  mutual
    unfolding split_and placed

    split-every : (n : ℕ) (f : Field) → P (record { place = n; this = f }) → Every (Holds P) (split_and n f)
    split-every n (field t x ps) p =
        chosen (Every (Holds P)) (eqb t And) (split-each-every (n + 3) ps (down (record { place = n; this = field t x ps }) p)) (p, tt)

    split-each-every : (n : ℕ) (fs : Fields) → Every P (placed n fs) → Every (Holds P) (split_each n fs)
    split-each-every n (end r) e = tt
    split-each-every n (next f fs) e =
        every_append (Holds P) (split_and n f) (split_each (n + size f) fs) (split-every n f e.0) (split-each-every (n + size f) fs e.1)

  split-first-every : (n : ℕ) (fs : Fields) → Every P (placed n fs) → Every (Holds P) (split_first n fs)
  unfolding split_first placed
  split-first-every n (end r) e = tt
  split-first-every n (next f fs) e = split-every n f e.0

  mutual
    unfolding negated placed

    negated-every : (n : ℕ) (f : Field) → P (record { place = n; this = f }) → Every (Holds P) (negated n f)
    negated-every n (field t x ps) p =
        let e = down (record { place = n; this = field t x ps }) p in
        chosen (Every (Holds P)) (eqb t Not) (split-first-every (n + 3) ps e)
        (chosen (Every (Holds P)) (eqb t Or) (negated-each-every (n + 3) ps e) (chosen (Every (Holds P)) (between Eq Ge t) (p, tt) tt))

    negated-each-every : (n : ℕ) (fs : Fields) → Every P (placed n fs) → Every (Holds P) (negated_each n fs)
    negated-each-every n (end r) e = tt
    negated-each-every n (next f fs) e =
        every_append (Holds P) (negated n f) (negated_each (n + size f) fs) (negated-every n f e.0) (negated-each-every (n + size f) fs e.1)

  negated-first-every : (n : ℕ) (fs : Fields) → Every P (placed n fs) → Every (Holds P) (negated_first n fs)
  unfolding negated_first placed
  negated-first-every n (end r) e = tt
  negated-first-every n (next f fs) e = negated-every n f e.0

  conditions-every : (p : Placed) → P p → Every (Holds P) (conditions_of p)
  unfolding conditions_of
  conditions-every p e =
      chosen (Every (Holds P)) (eqb (tag p.this) Denies)
      (negated-first-every (p.place + 3) (parts p.this) (down p e)) (split-first-every (p.place + 3) (parts p.this) (down p e))

  pub required-every : (f : Field) → P (record { place = 0; this = f }) → Every (Holds P) (required_conditions f)
  unfolding required_conditions placed_from
  required-every f e =
      every_append (Holds P) (conditions_from Limits Denies 3 (parts f)) (conditions_from Guard Guard 3 (parts f))
      (of Limits Denies) (of Guard Guard)
    where
      of : (low high : ℕ) → Every (Holds P) (conditions_from low high 3 (parts f))
      of low high =
          every-flat_map P (Holds P) conditions_of conditions-every (placed_from low high 3 (parts f))
          (every-filter P (λ p. between low high (tag p.this)) (placed 3 (parts f)) (down (record { place = 0; this = f }) e))

-- Each stands inside the entry, at its place

-- it ends at b or before
abbrev pub Ends : ℕ → Placed → Type 0
Ends b p = p.place + size p.this ≤ b

row_ends : (b n : ℕ) (fs : Fields) → n + sizes fs ≤ b → Every (Ends b) (placed n fs)
unfolding placed sizes
row_ends b n (end r) h = tt
row_ends b n (next f fs) h = (omega arith, row_ends b (n + size f) fs (omega arith))

pub parts-end : (b : ℕ) (p : Placed) → Ends b p → Every (Ends b) (placed_parts p)
parts-end b p h = row_ends b (p.place + 3) (parts p.this) (omega (arith, parts-inside p.this))

module _ (entry : List ℕ) where
  pub conditions-stand : Every (Holds (Stands entry)) (required_conditions (front entry))
  conditions-stand = required-every (Stands entry) (parts-stand entry) (front entry) refl

  -- The numbers of the table give them back

  read-mark : (n : ℕ) (b : Bool) (f : Field) → n < 32768 → front (drop n entry) ≡ f →
      condition_at entry (mark (record { place = n; flipped = b; this = f })) ≡ record { place = n; flipped = b; this = f }
  unfolding mark condition_at
  read-mark n true f h e =
      let z : (n + 32768) % 32768 ≡ n = omega arith in
      rw (mod-eq_of_lt h, z, le-leb 32768 (n + 32768) (omega arith), e)
  read-mark n false f h e =
      let z : n % 32768 ≡ n = mod-eq_of_lt h in
      rw (z, z, lt-leb 32768 n h, e)

  pub read-marks : length entry ≤ 32768 → (cs : List Condition) → Every (Holds (Stands entry)) cs → Every (Holds (Ends (length entry))) cs →
      map (condition_at entry) (marks cs) ≡ cs
  read-marks h [] e l = refl
  read-marks h (c ∷ cs) e l =
      rw (
        read-mark c.place c.flipped c.this (omega (arith, l.0, parts-inside c.this)) e.0,
        read-marks h cs e.1 l.1,
      )

  -- those of a clause or guard that stands in the entry
  module _ (n : ℕ) (s : List ℕ) (e : front (drop n entry) ≡ front s) (w : whole s ≡ true) (l : n + length s ≤ length entry) where
    abbrev here : Placed
    here = record { place = n; this = front s }

    end-here : Ends (length entry) here
    end-here = omega (arith, front-size s w, leb-true (3 + length_of s) (length s) w)

    here-read : length entry ≤ 32768 → map (condition_at entry) (marks (conditions_at s n)) ≡ conditions_at s n
    unfolding conditions_at
    here-read h =
        read-marks h (conditions_of here) (conditions-every (Stands entry) (parts-stand entry) here e)
        (conditions-every (Ends (length entry)) (parts-end (length entry)) here end-here)

    module _ (table last : List ℕ) (r : ℕ) (p : Listed (marks (conditions_at s n)) table 0 last r) where
      -- a table with an element for each three bytes of the entry has room for all of them
      pub table-wide : length entry ≤ 3 * length table → r ≤ length table
      unfolding conditions_at
      table-wide h = omega (arith, p.count, length-map (conditions_of here) mark, conditions-few here, end-here)

      pub table-read : length entry ≤ 32768 → r ≤ length table → map (condition_at entry) (take r last) ≡ conditions_at s n
      table-read h m = rw (listed-front (marks (conditions_at s n)) table last r p m) (here-read h)
