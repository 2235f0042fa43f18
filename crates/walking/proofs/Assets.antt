-- The asset parameters of an entry: read one after the other, and listed with the numbers of their names. Among those that are listed is
-- one of a name exactly where some asset parameter has it, since each stands at its place and equal names have equal numbers.
use Rattle.std.proofs.Common.{ℕ, ◌+◌, ◌*◌, ◌≤◌, ◌<◌, ◌≡◌, refl, sym, ◌∙◌, Bool, true, false, cond, ◌&&◌, List, [], ◌∷◌, ◌++◌, map, arith, eqb, eq-eqb, ne_eqb}
use Rattle.std.proofs.Common.{◌^◌, length, drop, take, length-take, length-drop}
use mathlib.Core.List.{flat_map}
use Rattle.laws.specs.Lists.{any, filter}
use Rattle.laws.specs.Texts.{same_bytes}
use Rattle.laws.proofs.Lists.{Every, no-elements, any-map}
use Rattle.laws.proofs.Texts.{bytes-symmetric}
use Rattle.tags.specs.Tag.{Parameter, between}
use Rattle.tags.proofs.Ranges.{between-one}
use Rattle.fields.specs.Field.{Field, Fields as Tree, Placed, fields, front, tag, parts, size, row, fields_from, placed}
use Rattle.fields.specs.Field.Fields.{end, next}
use Rattle.fields.specs.Number.{short_number}
use Rattle.fields.specs.Row.{shown}
use Rattle.fields.specs.Table.{Listed}
use Rattle.fields.specs.Lists.{Lists}
use Rattle.fields.specs.declared.field.Field.{Field as Found}
use Rattle.fields.specs.declared.field.Fields.{Fields as Iterator}
use Rattle.fields.specs.declared.named.Named.{Named}
use Rattle.fields.specs.declared.table.Table.{Table}
use Rattle.fields.specs.declared.table.TableView.{TableView}
use Rattle.fields.proofs.Gathering.{Gathers}
use Rattle.fields.proofs.Places.{size-least}
use Rattle.fields.proofs.Tables.{lists-none, listed-front, listed-long}
use Rattle.fields.proofs.Inside.{Stands, parts-stand}
use Rattle.model.specs.Model.{name_of, params}
use Rattle.walking.specs.Walking.{is_asset_parameter, asset_params, without_places}
use Rattle.walking.specs.Assets.{named_parameter, named_assets, named_by, Assets}
use Rattle.walking.proofs.Numbered.{number-told}

-- Among fields in a row

-- those that are asset parameters
abbrev assets_in : List Field → List Field
assets_in fs = filter is_asset_parameter (filter (λ f. eqb (tag f) Parameter) fs)

parameters-by-tag : (fs : List Field) → filter (λ f. between Parameter Parameter (tag f)) fs ≡ filter (λ f. eqb (tag f) Parameter) fs
parameters-by-tag [] = refl
parameters-by-tag (f ∷ fs) = rw (between-one Parameter (tag f), parameters-by-tag fs)

-- those of an entry
pub entry-assets : (entry : Field) → asset_params entry ≡ map name_of (assets_in (row (parts entry)))
unfolding asset_params params fields_from
entry-assets entry = rw (parameters-by-tag (row (parts entry)))

pub any-asset : (s name x : List ℕ) → fields x ≡ parts (front s) →
    any (λ f. same_bytes name (name_of f)) (assets_in (row (fields x))) ≡ any (same_bytes name) (asset_params (front s))
any-asset s name x e = rw (entry-assets (front s), any-map name_of (same_bytes name) (assets_in (row (parts (front s)))), e)

-- Listing them

module _ (f : Found) (t : Table Named) (g : ℕ) (e : g ≡ tag (front f.part.now)) where
  pub other-tag : (g ≡ Parameter → ⊥) → Lists (named_parameter (shown f)) t t
  unfolding named_parameter
  other-tag n = rw (← e, ne_eqb g Parameter n) (lists-none t)

  module _ (p : g ≡ Parameter) (b : Bool) (o : b ≡ is_asset_parameter (front f.part.now)) where
    pub other-type : b ≡ false → Lists (named_parameter (shown f)) t t
    unfolding named_parameter
    other-type h = rw (← e, eq-eqb g Parameter p, ← o, h) (lists-none t)

    pub asset-listed : b ≡ true → (x : List ℕ) → x ≡ name_of (front f.part.now) → (k : ℕ) → k ≡ short_number x →
        (u : Table Named) → Lists (record { number = k; place = f.place } ∷ []) t u → Lists (named_parameter (shown f)) t u
    unfolding named_parameter
    asset-listed h x i k j u l = rw (← e, eq-eqb g Parameter p, ← o, h, ← i, ← j) l

one-at-most : (p : Placed) → length (named_parameter p) ≤ 1
unfolding named_parameter
one-at-most p = go (eqb (tag p.this) Parameter && is_asset_parameter p.this)
  where
    go : (k : Bool) → length {A = Named} (cond k (record { number = short_number (name_of p.this); place = p.place } ∷ []) []) ≤ 1
    go true = omega arith
    go false = omega arith

pub assets : Gathers (λ n f. named_parameter (record { place = n; this = f })) (λ n fs. flat_map named_parameter (placed n fs))
unfolding flat_map placed
assets =
    record {
      none = λ n r. refl;
      more = λ n f fs. refl;
      few = λ n f. omega (arith, one-at-most (record { place = n; this = f }), size-least f);
    }

-- the row is shorter than the file, so that each stands where two bytes say
module _ (all x : Iterator) (g : all ≡ x) (y s : List ℕ) (r : x.rest.now ≡ y) (z : x.place ≡ 3) (k : ℕ) (w : y ≡ take k (drop 3 s)) (h : length s ≤ 32768) where
  short : all.place + length all.rest.now ≤ 32771
  short = rw (g, r, z, w, length-take, length-drop) (omega arith)

  pub place-small : (f : Found) → f.place + length f.part.now ≡ all.place + length all.rest.now → f.place < 65536
  place-small f e = omega (arith, short)

  pub room-left : (n : ℕ) → n ≡ 0 → 3 * n + length all.rest.now < 3 * 2 ^ 64
  room-left n e = omega (arith, short)

  pub entry-listed : fields y ≡ parts (front s) → (t : List Named) (none u : Table Named) → none.items.now ≡ t → none.count ≡ 0 →
      Lists (flat_map named_parameter (placed all.place (fields all.rest.now))) none u → Listed (named_assets (front s)) t 0 u.items.now u.count
  unfolding named_assets
  entry-listed e t none u i j p = rw (← e) (rw (g, r, z, i, j) at p.listed)

-- where there is room for all, the table holds them in front
pub assets-listed : (s x : List ℕ) (t : List Named) (u : Table Named) → x ≡ s → Listed (named_assets (front x)) t 0 u.items.now u.count →
    (v : TableView Named) → v.items.now ≡ u.items.now → v.count ≡ u.count → Assets s v
assets-listed s x t u e p v i j h =
    let l : u.count ≤ length u.items.now = rw (i, j) at h in
    rw (i, j) (listed-front (named_assets (front x)) t u.items.now u.count p (rw (← listed-long p) l) ∙ rw e)

-- Looking for a name among them

-- what the code tests: the names are compared where the numbers are equal
module _ (s name : List ℕ) (a : Named) (own : ℕ) (e : own ≡ short_number name) where
  pub other-number : (a.number ≡ own → ⊥) → false ≡ named_by s name a
  unfolding named_by
  other-number n = rw (ne_eqb a.number (short_number name) (λ h. n (h ∙ sym e)))

  pub by-name : a.number ≡ own → (place : ℕ) → place ≡ a.place → (x : List ℕ) → x ≡ drop place s → (y : List ℕ) → y ≡ name_of (front x) →
      (b : Bool) → b ≡ same_bytes name y → b ≡ named_by s name a
  unfolding named_by
  by-name h place f x g y i b k = rw (eq-eqb a.number (short_number name) (h ∙ e), k, i, g, f)

-- a parameter that stands in s has a name exactly where what is listed of it is by that name
numbered : (s name : List ℕ) (p : Placed) → Stands s p →
    named_by s name (record { number = short_number (name_of p.this); place = p.place }) ≡ same_bytes name (name_of p.this)
unfolding named_by
numbered s name p e = rw (e, bytes-symmetric name (name_of p.this)) (number-told (name_of p.this) name)

among-placed : (s name : List ℕ) (ps : List Placed) → Every (Stands s) ps →
    any (named_by s name) (flat_map named_parameter ps) ≡ any (same_bytes name) (map name_of (assets_in (without_places ps)))
unfolding flat_map named_parameter
among-placed s name [] e = refl
among-placed s name (p ∷ ps) e = go (eqb (tag p.this) Parameter) (is_asset_parameter p.this) refl (among-placed s name ps e.1)
  where
    others : List Field
    others = filter (λ f. eqb (tag f) Parameter) (without_places ps)

    go : (i k : Bool) → is_asset_parameter p.this ≡ k →
        any (named_by s name) (flat_map named_parameter ps) ≡ any (same_bytes name) (map name_of (assets_in (without_places ps))) →
        any (named_by s name) (cond (i && k) (record { number = short_number (name_of p.this); place = p.place } ∷ []) [] ++ flat_map named_parameter ps)
        ≡ any (same_bytes name) (map name_of (filter is_asset_parameter (cond i (p.this ∷ others) others)))
    go true true h r = rw (h, numbered s name p e.0, r)
    go true false h r = rw h r
    go false k h r = r

placed-row : (n : ℕ) (fs : Tree) → without_places (placed n fs) ≡ row fs
unfolding placed row
placed-row n (end r) = refl
placed-row n (next f fs) = rw (placed-row (n + size f) fs)

-- so of an entry all asset parameters are among them
among-all : (s name : List ℕ) → any (named_by s name) (named_assets (front s)) ≡ any (same_bytes name) (asset_params (front s))
unfolding named_assets
among-all s name =
    among-placed s name (placed 3 (parts (front s))) (parts-stand s (record { place = 0; this = front s }) refl)
    ∙ rw (placed-row 3 (parts (front s)), entry-assets (front s))

pub any-listed : (s name : List ℕ) (t : TableView Named) → Assets s t → t.count ≤ length t.items.now → (l : List Named) → l ≡ take t.count t.items.now →
    any (named_by s name) l ≡ any (same_bytes name) (asset_params (front s))
any-listed s name t a h l e = rw (e, a h) (among-all s name)

-- where none is listed, none has a name
pub no-assets : (s x : List ℕ) (t : List Named) (u : Table Named) → x ≡ s → Listed (named_assets (front x)) t 0 u.items.now u.count → u.count ≡ 0 → (name : List ℕ) →
    any (same_bytes name) (asset_params (front s)) ≡ false
no-assets s x t u e p h name = sym (among-all s name) ∙ rw (← e, no-elements (named_assets (front x)) (omega (arith, p.count, h)))
