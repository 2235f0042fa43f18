-- What a visit lists at each return: of a field, and of a row of fields.
use Rattle.std.proofs.Common.{ℕ, ◌+◌, ◌*◌, ◌^◌, ◌%◌, ◌≤◌, ◌<◌, ◌≡◌, refl, Bool, cond, true, false, List, [], ◌∷◌, arith, eqb, length, take, drop}
use mathlib.Core.List.{flat_map}
use Rattle.laws.proofs.Truths.{chosen}
use Rattle.laws.proofs.Lists.{no-elements}
use Rattle.tags.specs.Tag.{is_expression, is_statement}
use Rattle.fields.specs.Field.{Field, fields, front, tag, parts, size, sizes, placed, whole}
use Rattle.fields.specs.Field.Field.{field}
use Rattle.fields.specs.Row.{shown, Step}
use Rattle.fields.specs.Lists.{Lists}
use Rattle.fields.specs.declared.field.Fields.{Fields}
use Rattle.fields.specs.declared.field.Field.{Field as Found}
use Rattle.fields.specs.declared.table.Table.{Table}
use Rattle.fields.specs.Table.{Listed}
use Rattle.fields.proofs.Reading.{front-none, fields-end}
use Rattle.fields.proofs.Places.{is-zero, parts-shorter}
use Rattle.fields.proofs.Gathering.{Gathers}
use Rattle.fields.proofs.Tables.{listed-none, lists-none, lists_then}
use Rattle.walking.specs.Walking.{walk, walk_parts, stmt_exprs, body_exprs}
use Rattle.walking.specs.Table.{placed_at, places_of}
use Rattle.walking.proofs.Within.{walk-within, statement-within}
use Rattle.walking.proofs.Places.{places-append, places-cons, places-few}

-- What is listed of it

walk_step : (n : ℕ) (f : Field) → walk n f ≡ cond (is_expression (tag f)) (record { place = n; this = f } ∷ walk_parts (n + 3) (parts f)) []
unfolding walk
walk_step n (field t x ps) = refl

module _ (f : Found) (wanted : ℕ) (t : Table ℕ) (g : ℕ) (e : g ≡ tag (front f.part.now)) (v : Bool) where
  module _ (c : v ≡ is_expression g) where
    pub no-expression : v ≡ false → Lists (places_of wanted (walk f.place (front f.part.now))) t t
    no-expression h = rw (walk_step f.place (front f.part.now), ← e, ← c, h) (lists-none t)

    pub expression-parts : v ≡ true → (u : Table ℕ) → Lists (cond (eqb (tag (front f.part.now)) wanted) (f.place % 65536 ∷ []) []) t u →
        (x : Fields) → x.place ≡ f.place + 3 → fields x.rest.now ≡ parts (front f.part.now) →
        (z : Table ℕ) → Lists (places_of wanted (walk_parts x.place (fields x.rest.now))) u z → Lists (places_of wanted (walk f.place (front f.part.now))) t z
    expression-parts h u p x l m z q =
        rw (walk_step f.place (front f.part.now), ← e, ← c, h, places-cons wanted (shown f) (walk_parts (f.place + 3) (parts (front f.part.now))), ← l, ← m)
        (lists_then p q)

    pub expression-alone : v ≡ true → (u : Table ℕ) → Lists (cond (eqb (tag (front f.part.now)) wanted) (f.place % 65536 ∷ []) []) t u →
        (x : Fields) → x.place ≡ f.place + 3 → fields x.rest.now ≡ parts (front f.part.now) → (b : Bool) → b ≡ eqb (length x.rest.now) 0 → b ≡ true →
        Lists (places_of wanted (walk f.place (front f.part.now))) t u
    unfolding walk_parts
    expression-alone h u p x l m b z n =
        expression-parts h u p x l m u (rw (no-elements x.rest.now (is-zero _ b z n), fields-end [] refl) (lists-none u))

  module _ (c : v ≡ is_statement g) where
    pub no-statement : v ≡ false → Lists (places_of wanted (stmt_exprs (shown f))) t t
    unfolding stmt_exprs
    no-statement h = rw (← e, ← c, h) (lists-none t)

    pub statement-parts : v ≡ true → (x : Fields) → x.place ≡ f.place + 3 → fields x.rest.now ≡ parts (front f.part.now) →
        (z : Table ℕ) → Lists (places_of wanted (walk_parts x.place (fields x.rest.now))) t z → Lists (places_of wanted (stmt_exprs (shown f))) t z
    unfolding stmt_exprs
    statement-parts h x l m z q = rw (← e, ← c, h, ← l, ← m) q

-- The room that is left

pub noted-room : (f : Found) (x : Fields) → x.rest.now ≡ take (sizes (parts (front f.part.now))) (drop 3 f.part.now) →
    (t : Table ℕ) → 3 * t.count + length f.part.now < 3 * 2 ^ 64 → (hit : Bool) (k : ℕ) (u : Table ℕ) → Lists (cond hit (k ∷ []) []) t u →
    3 * u.count + length x.rest.now < 3 * 2 ^ 64
noted-room f x e t room hit k u p =
    let l = chosen (λ ks. length ks ≤ 1) hit {a = k ∷ []} {b = []} (omega arith) (omega arith) in
    omega (arith, parts-shorter f.part.now f.there x.rest.now e, p.listed.count)

-- Along a row of fields

pub expressions : (wanted : ℕ) → Gathers (λ n f. places_of wanted (walk n f)) (λ n fs. places_of wanted (walk_parts n fs))
unfolding walk_parts
expressions wanted =
    record {
      none = λ n r. refl;
      more = λ n f fs. places-append wanted (walk n f) (walk_parts (n + size f) fs);
      few = λ n f. omega (arith, places-few wanted n (n + size f) (walk n f) (walk-within n f));
    }

pub statements : (wanted : ℕ) →
    Gathers (λ n f. places_of wanted (stmt_exprs (record { place = n; this = f }))) (λ n fs. places_of wanted (flat_map stmt_exprs (placed n fs)))
unfolding flat_map placed
statements wanted =
    record {
      none = λ n r. refl;
      more = λ n f fs. places-append wanted (stmt_exprs (record { place = n; this = f })) (flat_map stmt_exprs (placed (n + size f) fs));
      few = λ n f. omega (arith, places-few wanted n (n + size f) (stmt_exprs (record { place = n; this = f })) (statement-within (record { place = n; this = f })));
    }

-- Of the field at the front of a part; nothing where no whole field stands there

module _ (wanted : ℕ) (t : List ℕ) (none : Table ℕ) (e : none.items.now ≡ t) (z : none.count ≡ 0) (it : Fields) where
  pub nothing-walked : (s : List ℕ) → it.rest.now ≡ s → whole it.rest.now ≡ false →
      Listed (places_of wanted (walk 0 (front s))) t 0 none.items.now none.count
  unfolding walk is_expression
  nothing-walked s r w = rw (← r, front-none it.rest.now w, e, z) (listed-none t 0)

  pub front-walked : (s : List ℕ) → it.rest.now ≡ s → it.place ≡ 0 → (f : Found) (b : Fields) → Step it f b →
      (u : Table ℕ) → Lists (places_of wanted (walk f.place (front f.part.now))) none u → Listed (places_of wanted (walk 0 (front s))) t 0 u.items.now u.count
  front-walked s r k f b h u p = rw (← r, ← h.part) (rw (h.place, k, e, z) at p.listed)

  module _ (file : List ℕ) (place : ℕ) (r : it.rest.now ≡ drop place file) where
    pub nothing-in-body : whole it.rest.now ≡ false → Listed (places_of wanted (body_exprs (placed_at file place))) t 0 none.items.now none.count
    unfolding body_exprs placed flat_map
    nothing-in-body w = rw (← r, front-none it.rest.now w, e, z) (listed-none t 0)

    pub body-walked : it.place ≡ place → (f : Found) (b : Fields) → Step it f b → (x : Fields) → x.place ≡ f.place + 3 → fields x.rest.now ≡ parts (front f.part.now) →
        (u : Table ℕ) → Lists (places_of wanted (flat_map stmt_exprs (placed x.place (fields x.rest.now)))) none u →
        Listed (places_of wanted (body_exprs (placed_at file place))) t 0 u.items.now u.count
    unfolding body_exprs
    body-walked k f b h x l m u p = rw (← r, ← h.part, ← m) (rw (l, h.place, k, e, z) at p.listed)
