-- Listing along a row: what is listed of each field in turn, behind what was listed before, is what is listed of the row.
use Rattle.std.proofs.Common.{ℕ, ◌+◌, ◌-◌, ◌*◌, ◌^◌, ◌≤◌, ◌<◌, ◌≡◌, refl, ◌∙◌, false, List, [], ◌++◌, arith, leb-true, ap, length, take, drop, length-drop}
use Rattle.fields.specs.Field.{Field, Fields as Tree, fields, front, parts, size, sizes, whole, length_of, after}
use Rattle.fields.specs.Field.Fields.{end, next}
use Rattle.fields.specs.Table.{Listed}
use Rattle.fields.specs.Lists.{Lists}
use Rattle.fields.specs.Row.{Step}
use Rattle.fields.specs.declared.field.Fields.{Fields}
use Rattle.fields.specs.declared.field.Field.{Field as Found}
use Rattle.fields.specs.declared.table.Table.{Table}
use Rattle.fields.proofs.Reading.{fields-next, fields-end, after_less}
use Rattle.fields.proofs.Places.{front-size, parts-shorter}
use Rattle.fields.proofs.Tables.{listed-none, listed_then}

-- `many` lists of a row what `one` lists of the first of it and then of the rest
pub record Gathers {X : Type 0} (one : ℕ → Field → List X) (many : ℕ → Tree → List X) : Type 0 where
  pub none : (n : ℕ) (r : List ℕ) → many n (end r) ≡ []
  pub more : (n : ℕ) (f : Field) (fs : Tree) → many n (next f fs) ≡ one n f ++ many (n + size f) fs
  pub few : (n : ℕ) (f : Field) → 3 * length (one n f) ≤ size f

-- whoever lists what is left from here has listed all
pub record Gathering {X : Type 0} (many : ℕ → Tree → List X) (all : Fields) (table : Table X) (rest : Fields) (last : Table X) : Type 0 where
  pub room : 3 * last.count + length rest.rest.now < 3 * 2 ^ 64
  pub within : length rest.rest.now ≤ length all.rest.now
  pub ends : rest.place + length rest.rest.now ≡ all.place + length all.rest.now
  pub same : last.items.ghost_name ≡ table.items.ghost_name
  pub left : (v : List X) (r : ℕ) → Listed (many rest.place (fields rest.rest.now)) last.items.now last.count v r →
      Listed (many all.place (fields all.rest.now)) table.items.now table.count v r

pub gathering-all : {X : Type 0} (many : ℕ → Tree → List X) (all : Fields) (table : Table X) → 3 * table.count + length all.rest.now < 3 * 2 ^ 64 →
    Gathering many all table all table
gathering-all many all table h = record { room = h; within = omega arith; ends = refl; same = refl; left = λ v r p. p }

module _ {X : Type 0} {one : ℕ → Field → List X} {many : ℕ → Tree → List X} (by : Gathers one many)
    (all : Fields) (table : Table X) (rest : Fields) (last : Table X) (i : Gathering many all table rest last) where
  pub gathering-done : whole rest.rest.now ≡ false → Lists (many all.place (fields all.rest.now)) table last
  gathering-done w =
      record {
        listed =
            i.left last.items.now last.count (rw (fields-end rest.rest.now w, by.none rest.place rest.rest.now) (listed-none last.items.now last.count));
        same = i.same;
      }

  module _ (f : Found) (behind : Fields) (s : Step rest f behind) where
    pub gathering-room : 3 * last.count + length f.part.now < 3 * 2 ^ 64
    gathering-room = rw s.part i.room

    pub gathering-ends : f.place + length f.part.now ≡ all.place + length all.rest.now
    gathering-ends = rw (s.place, s.part) i.ends

    pub gathering-within : length f.part.now ≤ length all.rest.now
    gathering-within = rw s.part i.within

    module _ (then : Table X) (p : Lists (one f.place (front f.part.now)) last then) where
      one-listed : Lists (one rest.place (front rest.rest.now)) last then
      one-listed = rw (← s.part, ← s.place) p

      next-listed : (v : List X) (r : ℕ) → Listed (many behind.place (fields behind.rest.now)) then.items.now then.count v r →
          Listed (many rest.place (fields rest.rest.now)) last.items.now last.count v r
      next-listed v r q =
          let t = rest.rest.now in
          rw (fields-next t s.there, by.more rest.place (front t) (fields (after t)), front-size t s.there, ← s.behind, ← s.rest)
          (listed_then _ _ last.items.now then.items.now v last.count then.count r one-listed.listed q)

      pub gathering-on : Gathering many all table behind then
      gathering-on =
          let t = rest.rest.now in
          let l : 3 + length_of t ≤ length t = leb-true _ _ s.there in
          let d : length behind.rest.now ≡ length t - (3 + length_of t) = rw (s.rest, length-drop) in
          let q = by.few rest.place (front t) in
          record {
            room = omega (arith, l, d, q, i.room, one-listed.listed.count, front-size t s.there);
            within = omega (arith, i.within, after_less t behind.rest.now s.there s.rest);
            ends = omega (arith, i.ends, l, d, s.behind);
            same = one-listed.same ∙ i.same;
            left = λ v r q. i.left v r (next-listed v r q);
          }

-- there is room for one more number where a whole field is left
pub note-room : {X : Type 0} (f : Found) (t : Table X) → 3 * t.count + length f.part.now < 3 * 2 ^ 64 → t.count + 1 < 2 ^ 64
note-room f t h = omega (arith, h, leb-true (3 + length_of f.part.now) (length f.part.now) f.there)

-- a field's parts are shorter by its head
module _ (f : Found) (x : Fields) (e : x.rest.now ≡ take (sizes (parts (front f.part.now))) (drop 3 f.part.now)) where
  shorter : length x.rest.now + 3 ≤ length f.part.now
  shorter = parts-shorter f.part.now f.there x.rest.now e

  pub parts-fall : (t : ℕ) → 2 * length f.part.now ≡ t → 2 * length x.rest.now + 1 < t
  parts-fall t h = omega (arith, shorter)

  pub parts-room : {X : Type 0} (t : Table X) → 3 * t.count + length f.part.now < 3 * 2 ^ 64 → 3 * t.count + length x.rest.now < 3 * 2 ^ 64
  parts-room t room = omega (arith, shorter)

-- and the first of a row is no longer than the row
module _ (s : Fields) (f : Found) (b : Fields) (h : Step s f b) where
  pub front-falls : (t : ℕ) → 2 * length s.rest.now + 1 ≡ t → 2 * length f.part.now < t
  front-falls t e = let l : length f.part.now ≡ length s.rest.now = ap length h.part in omega (arith, l)

  pub front-room : {X : Type 0} (t : Table X) → 3 * t.count + length s.rest.now < 3 * 2 ^ 64 → 3 * t.count + length f.part.now < 3 * 2 ^ 64
  front-room t room = rw h.part room
