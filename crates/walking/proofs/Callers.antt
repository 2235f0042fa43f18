-- What a caller of the walk knows: the places in its table are those of the expressions, each stands in the file at its
-- place, and the fields do not depend on where the walk started.
use Rattle.std.proofs.Common.{ℕ, suc, ◌+◌, ◌*◌, ◌%◌, ◌≤◌, ◌<◌, ◌≡◌, refl, ap, ◌∙◌, Bool, true, false, cond, ◌||◌, List, [], ◌∷◌, ◌++◌, map, arith, mod-eq_of_lt, leb-true, le-leb, eqb, leb}
use Rattle.std.proofs.Common.{length, drop, length-drop}
use mathlib.Core.List.{flat_map, map-append}
use Rattle.laws.specs.Lists.{any, filter}
use Rattle.laws.proofs.Lists.{Every, every_append, every-filter, every-flat_map}
use Rattle.laws.proofs.Truths.{chosen}
use Rattle.tags.specs.Tag.{is_expression, is_statement}
use Rattle.fields.specs.Field.{Field, Fields, Placed, length_of, whole, front, tag, parts, size, sizes, placed, placed_parts}
use Rattle.fields.specs.Field.Field.{field}
use Rattle.fields.specs.Field.Fields.{end, next}
use Rattle.fields.proofs.Reading.{front-none}
use Rattle.fields.proofs.Places.{front-size}
use Rattle.fields.proofs.Inside.{Stands, parts-stand}
use Rattle.walking.specs.Walking.{walk, walk_parts, stmt_exprs, body_exprs, without_places, exprs}
use Rattle.walking.specs.Table.{placed_at, of_tag, places_of}
use Rattle.walking.proofs.Places.{places-few}
use Rattle.walking.proofs.Within.{Within, within-length, within-filter, walk-within, body-within}

-- How many there are: each takes three bytes at least

pub expression-few : (n : ℕ) (f : Field) (t : ℕ) → 3 * length (places_of t (walk n f)) ≤ size f
expression-few n f t = omega (arith, places-few t n (n + size f) (walk n f) (walk-within n f))

pub body-few : (p : Placed) (t : ℕ) → 3 + 3 * length (places_of t (body_exprs p)) ≤ size p.this
body-few p t = omega (arith, places-few t (p.place + 3) (p.place + size p.this) (body_exprs p) (body-within p))

-- there is one where some expression has the tag
pub places-any : (t : ℕ) (ps : List Placed) → leb 1 (length (places_of t ps)) ≡ any (λ f. eqb (tag f) t) (without_places ps)
places-any t [] = refl
places-any t (p ∷ ps) = go (eqb (tag p.this) t) (places-any t ps)
  where
    go : (k : Bool) → leb 1 (length (places_of t ps)) ≡ any (λ f. eqb (tag f) t) (without_places ps) →
        leb 1 (length (map (λ q. q.place % 65536) (cond k (p ∷ of_tag t ps) (of_tag t ps)))) ≡ k || any (λ f. eqb (tag f) t) (without_places ps)
    go true e = le-leb 1 (suc (length (places_of t ps))) (omega arith)
    go false e = e

-- The table's two bytes hold a place itself

exact : (a b : ℕ) (ps : List Placed) → Within a b ps → b ≤ 65536 → map (λ p. p.place % 65536) ps ≡ map (λ p. p.place) ps
exact a b [] w h = refl
exact a b (p ∷ ps) w h =
    let l : p.place < 65536 = omega (arith, within-length (p.place + 3) b ps w.1) in
    rw (mod-eq_of_lt l, exact (p.place + 3) b ps w.1 h)

module _ (s : List ℕ) where
  front-small : length s < 65536 → size (front s) ≤ 65536
  unfolding size sizes
  front-small h = go (whole s) refl
    where
      go : (w : Bool) → whole s ≡ w → size (front s) ≤ 65536
      go true w = let l : 3 + length_of s ≤ length s = leb-true _ _ w in rw (front-size s w) (omega arith)
      go false w = rw (front-none s w) (omega arith)

  pub expression-places : (t : ℕ) → length s < 65536 → places_of t (walk 0 (front s)) ≡ map (λ p. p.place) (of_tag t (walk 0 (front s)))
  expression-places t h =
      exact 0 (0 + size (front s)) (of_tag t (walk 0 (front s)))
      (within-filter 0 _ (λ p. eqb (tag p.this) t) (walk 0 (front s)) (walk-within 0 (front s))) (omega (arith, front-small h))

module _ (file : List ℕ) (n : ℕ) where
  pub body-places : (t : ℕ) → length file < 65536 → places_of t (body_exprs (placed_at file n)) ≡ map (λ p. p.place) (of_tag t (body_exprs (placed_at file n)))
  unfolding body_exprs flat_map placed
  body-places t h = go (whole (drop n file)) refl
    where
      go : (w : Bool) → whole (drop n file) ≡ w → places_of t (body_exprs (placed_at file n)) ≡ map (λ p. p.place) (of_tag t (body_exprs (placed_at file n)))
      go true w =
          let l : 3 + length_of (drop n file) ≤ length (drop n file) = leb-true _ _ w in
          exact (n + 3) (n + size (front (drop n file))) (of_tag t (body_exprs (placed_at file n)))
          (within-filter (n + 3) _ (λ p. eqb (tag p.this) t) (body_exprs (placed_at file n)) (body-within (placed_at file n)))
          (omega (arith, front-size (drop n file) w, length-drop n file))
      go false w = rw (front-none (drop n file) w)

-- Each expression stands in the file at its place

mutual
  unfolding walk size placed

  pub walk-stands : (file : List ℕ) (n : ℕ) (f : Field) → Stands file (record { place = n; this = f }) → Every (Stands file) (walk n f)
  walk-stands file n (field t x ps) e =
      chosen (Every (Stands file)) (is_expression t)
      (e, walk-parts-stand file (n + 3) ps (parts-stand file (record { place = n; this = field t x ps }) e)) tt

  walk-parts-stand : (file : List ℕ) (n : ℕ) (fs : Fields) → Every (Stands file) (placed n fs) → Every (Stands file) (walk_parts n fs)
  walk-parts-stand file n (end r) e = tt
  walk-parts-stand file n (next f fs) e =
      every_append (Stands file) (walk n f) (walk_parts (n + size f) fs) (walk-stands file n f e.0) (walk-parts-stand file (n + size f) fs e.1)

statement-stands : (file : List ℕ) (p : Placed) → Stands file p → Every (Stands file) (stmt_exprs p)
unfolding stmt_exprs
statement-stands file p e =
    chosen (Every (Stands file)) (is_statement (tag p.this))
    (walk-parts-stand file (p.place + 3) (parts p.this) (parts-stand file p e)) tt

pub body-stands : (file : List ℕ) (p : Placed) → Stands file p → Every (Stands file) (body_exprs p)
unfolding body_exprs
body-stands file p e = every-flat_map (Stands file) (Stands file) stmt_exprs (statement-stands file) (placed_parts p) (parts-stand file p e)

-- so the file gives the fields back
pub read_back : (file : List ℕ) (ps : List Placed) → Every (Stands file) ps → map (λ n. front (drop n file)) (map (λ p. p.place) ps) ≡ without_places ps
read_back file [] e = refl
read_back file (p ∷ ps) e = rw (e.0, read_back file ps e.1)

-- The fields do not depend on where the walk starts

module _ (l m : List Placed) (e : without_places l ≡ without_places m) where
  same_if : (k : Bool) → without_places (cond k l []) ≡ without_places (cond k m [])
  same_if true = e
  same_if false = refl

  same-append : (i j : List Placed) → without_places i ≡ without_places j → without_places (l ++ i) ≡ without_places (m ++ j)
  same-append i j f = rw (map-append (λ p. p.this) l i, map-append (λ p. p.this) m j, e, f)

mutual
  unfolding walk

  pub walk-anywhere : (m n : ℕ) (f : Field) → without_places (walk m f) ≡ without_places (walk n f)
  walk-anywhere m n (field t x ps) = same_if _ _ (ap (λ l. field t x ps ∷ l) (walk-parts-anywhere (m + 3) (n + 3) ps)) (is_expression t)

  walk-parts-anywhere : (m n : ℕ) (fs : Fields) → without_places (walk_parts m fs) ≡ without_places (walk_parts n fs)
  walk-parts-anywhere m n (end r) = refl
  walk-parts-anywhere m n (next f fs) =
      same-append (walk m f) (walk n f) (walk-anywhere m n f) (walk_parts (m + size f) fs) (walk_parts (n + size f) fs)
      (walk-parts-anywhere (m + size f) (n + size f) fs)

statement-anywhere : (m n : ℕ) (f : Field) → without_places (stmt_exprs (record { place = m; this = f })) ≡ without_places (stmt_exprs (record { place = n; this = f }))
unfolding stmt_exprs
statement-anywhere m n f =
    same_if (walk_parts (m + 3) (parts f)) (walk_parts (n + 3) (parts f)) (walk-parts-anywhere (m + 3) (n + 3) (parts f)) (is_statement (tag f))

statements-anywhere : (m n : ℕ) (fs : Fields) → without_places (flat_map stmt_exprs (placed m fs)) ≡ without_places (flat_map stmt_exprs (placed n fs))
unfolding flat_map placed
statements-anywhere m n (end r) = refl
statements-anywhere m n (next f fs) =
    same-append (stmt_exprs (record { place = m; this = f })) (stmt_exprs (record { place = n; this = f })) (statement-anywhere m n f)
    (flat_map stmt_exprs (placed (m + size f) fs)) (flat_map stmt_exprs (placed (n + size f) fs)) (statements-anywhere (m + size f) (n + size f) fs)

pub body-anywhere : (p : Placed) → without_places (body_exprs p) ≡ exprs p.this
unfolding body_exprs exprs
body-anywhere p = statements-anywhere (p.place + 3) (0 + 3) (parts p.this)

-- All of it: the file at the places of the table gives the expressions of the tag, in walk order

tagged : (t : ℕ) (ps : List Placed) → without_places (of_tag t ps) ≡ filter (λ f. eqb (tag f) t) (without_places ps)
tagged t [] = refl
tagged t (p ∷ ps) = go (eqb (tag p.this) t) (tagged t ps)
  where
    go : (k : Bool) → without_places (of_tag t ps) ≡ filter (λ f. eqb (tag f) t) (without_places ps) →
        without_places (cond k (p ∷ of_tag t ps) (of_tag t ps))
        ≡ cond k (p.this ∷ filter (λ f. eqb (tag f) t) (without_places ps)) (filter (λ f. eqb (tag f) t) (without_places ps))
    go true e = rw e
    go false e = e

read-tagged : (file : List ℕ) (t : ℕ) (ps : List Placed) → Every (Stands file) ps →
    map (λ k. front (drop k file)) (map (λ p. p.place) (of_tag t ps)) ≡ filter (λ f. eqb (tag f) t) (without_places ps)
read-tagged file t ps e =
    read_back file (of_tag t ps) (every-filter (Stands file) (λ p. eqb (tag p.this) t) ps e) ∙ tagged t ps

pub expression-read : (s : List ℕ) (t : ℕ) → length s < 65536 →
    map (λ k. front (drop k s)) (places_of t (walk 0 (front s))) ≡ filter (λ f. eqb (tag f) t) (without_places (walk 0 (front s)))
expression-read s t h = rw (expression-places s t h) (read-tagged s t (walk 0 (front s)) (walk-stands s 0 (front s) refl))

pub body-read : (file : List ℕ) (n t : ℕ) → length file < 65536 →
    map (λ k. front (drop k file)) (places_of t (body_exprs (placed_at file n))) ≡ filter (λ f. eqb (tag f) t) (exprs (front (drop n file)))
body-read file n t h =
    rw (body-places file n t h, ← body-anywhere (placed_at file n))
    (read-tagged file t (body_exprs (placed_at file n)) (body-stands file (placed_at file n) refl))
