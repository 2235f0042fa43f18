-- The asset parameters of an entry, listed along its parts. Each stands in the file at its place, so that its name is read there.
use Rattle.std.proofs.Common.{ℕ, ◌+◌, ◌-◌, ◌≤◌, ◌<◌, ◌≡◌, refl, sym, ap, ◌∙◌, Bool, true, false, cond, ◌&&◌, List, [], ◌∷◌, ◌++◌, map, append_assoc, arith, eqb}
use Rattle.std.proofs.Common.{length, get_or, take, drop, take_at, length-take-le}
use mathlib.Core.List.{flat_map}
use lib.ListN.{length-map, get_or-append}
use lib.Seq.{sets-eq}
use Rattle.laws.specs.Lists.{filter}
use Rattle.laws.proofs.Lists.{Every, map_at}
use Rattle.laws.proofs.Slices.{get_d-behind}
use Rattle.tags.specs.Tag.{Parameter}
use Rattle.tags.proofs.Ranges.{between-one}
use Rattle.fields.specs.Field.{Fields as Tree, Placed, fields, front, tag, parts, size, row, fields_from, placed}
use Rattle.fields.specs.Field.Fields.{end, next}
use Rattle.fields.specs.Lists.{Lists}
use Rattle.fields.specs.Table.{Listed}
use Rattle.fields.specs.declared.field.Fields.{Fields}
use Rattle.fields.specs.declared.table.Table.{Table}
use Rattle.fields.proofs.Gathering.{Gathers}
use Rattle.fields.proofs.Inside.{Stands, parts-stand}
use Rattle.fields.proofs.Places.{size-least}
use Rattle.model.specs.Model.{name_of, params}
use Rattle.walking.specs.Walking.{is_asset_parameter, asset_params}
use Rattle.walking.specs.Table.{placed_at}
use Rattle.tokens.specs.Numbers.{Standing}
use Rattle.entries.specs.Calls.{asset_place, asset_places}

-- Listing them

one-at-most : (p : Placed) → length (asset_place p) ≤ 1
unfolding asset_place
one-at-most p = go (eqb (tag p.this) Parameter && is_asset_parameter p.this)
  where
    go : (k : Bool) → length {A = ℕ} (cond k (p.place ∷ []) []) ≤ 1
    go true = omega arith
    go false = omega arith

pub parameters : Gathers (λ n f. asset_place (record { place = n; this = f })) asset_places
unfolding flat_map placed
parameters =
    record {
      none = λ n r. refl;
      more = λ n f fs. refl;
      few = λ n f. omega (arith, one-at-most (record { place = n; this = f }), size-least f);
    }

-- the row lies in the file, so that each place takes two bytes
module _ (all x : Fields) (g : all ≡ x) (s file : List ℕ) (place n : ℕ) (h : Standing file place n) (d : List ℕ) (f : d ≡ drop place file)
    (k : ℕ) (w : s ≡ take k (drop 3 d)) (r : x.rest.now ≡ s) (z : x.place ≡ place + 3) where
  pub parameters-listed : fields s ≡ parts (front d) → (t u : Table ℕ) → Lists (asset_places all.place (fields all.rest.now)) t u →
      Lists (asset_places (place + 3) (parts (front (drop place file)))) t u
  parameters-listed e t u p = rw (← f, ← e) (rw (g, r, z) at p)

-- Reading them

-- the name of what stands at a place of the file
abbrev pub name_at : List ℕ → ℕ → List ℕ
name_at file k = name_of (front (drop k file))

names-placed : (file : List ℕ) (n : ℕ) (fs : Tree) → Every (Stands file) (placed n fs) →
    map (name_at file) (asset_places n fs) ≡ map name_of (filter is_asset_parameter (fields_from Parameter Parameter fs))
unfolding flat_map asset_place placed fields_from row
names-placed file n (end r) h = refl
names-placed file n (next f fs) h = rw (between-one Parameter (tag f)) (go (eqb (tag f) Parameter) (is_asset_parameter f) refl (names-placed file (n + size f) fs h.1))
  where
    go : (i k : Bool) → is_asset_parameter f ≡ k →
        map (name_at file) (asset_places (n + size f) fs) ≡ map name_of (filter is_asset_parameter (fields_from Parameter Parameter fs)) →
        map (name_at file) (cond (i && k) (n ∷ []) [] ++ asset_places (n + size f) fs)
        ≡ map name_of (filter is_asset_parameter (cond i (f ∷ fields_from Parameter Parameter fs) (fields_from Parameter Parameter fs)))
    go true true e r = rw (e, h.0, r)
    go true false e r = rw e r
    go false k e r = r

pub names-read : (file : List ℕ) (place : ℕ) → map (name_at file) (asset_places (place + 3) (parts (front (drop place file)))) ≡ asset_params (front (drop place file))
unfolding asset_params params
names-read file place = names-placed file (place + 3) (parts (front (drop place file))) (parts-stand file (placed_at file place) refl)

module _ (file : List ℕ) (place : ℕ) (table : List ℕ) (n : ℕ) (last : List ℕ) (r : ℕ)
    (p : Listed (asset_places (place + 3) (parts (front (drop place file)))) table n last r)
    (h : n + length (asset_params (front (drop place file))) ≤ length table) where
  abbrev ks : List ℕ
  ks = asset_places (place + 3) (parts (front (drop place file)))

  many : length ks ≡ length (asset_params (front (drop place file)))
  many = sym (length-map ks (name_at file)) ∙ ap length (names-read file place)

  front_long : length (take n table) ≡ n
  front_long = length-take-le n table (omega (arith, h))

  pieces : last ≡ take n table ++ (ks ++ drop (n + length ks) table)
  pieces = p.kept ∙ sets-eq ks table n (omega (arith, h, many)) ∙ append_assoc (take n table) ks (drop (n + length ks) table)

  -- the first n stay
  pub front-stays : take n last ≡ take n table
  front-stays = rw pieces (take_at (take n table) (ks ++ drop (n + length ks) table) n front_long)

  -- and behind them come the names
  pub name-there : (i : ℕ) → i < n + length (asset_params (front (drop place file))) → n ≤ i →
      name_at file (get_or last i 0) ≡ get_or (asset_params (front (drop place file))) (i - n) []
  name-there i l g =
      let j : i - n < length ks = omega (arith, l, g, many) in
      let e : get_or last i 0 ≡ get_or ks (i - n) 0 =
      ap (λ t. get_or t i 0) pieces ∙ get_d-behind (take n table) (ks ++ drop (n + length ks) table) n i 0 front_long g ∙ get_or-append ks (drop (n + length ks) table) 0 (i - n) j in
      ap (name_at file) e ∙ sym (map_at (name_at file) ks (i - n) [] 0 j) ∙ ap (λ t. get_or t (i - n) []) (names-read file place)
