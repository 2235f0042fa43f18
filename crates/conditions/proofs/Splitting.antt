-- What is listed at each return, of an expression that is required or denied: the definitions by one step.
use Rattle.std.proofs.Common.{ℕ, ◌+◌, ◌*◌, ◌%◌, ◌<◌, ◌≡◌, refl, ap, ◌∙◌, Bool, true, false, cond, List, [], ◌∷◌, eq-eqb, ne_eqb, eqb, arith, length, take, drop}
use mathlib.Core.List.{map-append}
use lib.ListN.{length-map}
use Rattle.tags.specs.Tag.{Denies, Not, Or, And, Eq, Ge, between}
use Rattle.fields.specs.Field.{Field, Fields as Tree, fields, whole, front, tag, parts, size, sizes}
use Rattle.fields.specs.Field.Field.{field}
use Rattle.fields.specs.Row.{shown, Step}
use Rattle.fields.specs.Table.{Listed}
use Rattle.fields.specs.Lists.{Lists}
use Rattle.fields.specs.declared.field.Fields.{Fields}
use Rattle.fields.specs.declared.field.Field.{Field as Found}
use Rattle.fields.specs.declared.table.Table.{Table}
use Rattle.fields.proofs.Reading.{fields-next, fields-end}
use Rattle.fields.proofs.Tables.{listed-none, lists-none}
use Rattle.fields.proofs.Places.{parts-shorter}
use Rattle.fields.proofs.Gathering.{Gathers}
use Rattle.conditions.specs.Conditions.{split_and, split_each, split_first, negated, negated_each, negated_first, conditions_of}
use Rattle.conditions.specs.Table.{mark, marks}
use Rattle.conditions.proofs.Few.{split-few, negated-few}

-- By one step

split_step : (n : ℕ) (f : Field) → split_and n f
    ≡ cond (eqb (tag f) And) (split_each (n + 3) (parts f)) (record { place = n; flipped = false; this = f } ∷ [])
unfolding split_and
split_step n (field t x ps) = refl

negated-step : (n : ℕ) (f : Field) → negated n f
    ≡ cond (eqb (tag f) Not) (split_first (n + 3) (parts f))
    (cond (eqb (tag f) Or) (negated_each (n + 3) (parts f))
    (cond (between Eq Ge (tag f)) (record { place = n; flipped = true; this = f } ∷ []) []))
unfolding negated
negated-step n (field t x ps) = refl

module _ (f : Found) (t : Table ℕ) (g : ℕ) (e : g ≡ tag (front f.part.now)) (u : Table ℕ) where
  pub split-here : (g ≡ And → ⊥) → Lists (f.place % 32768 ∷ []) t u → Lists (marks (split_and f.place (front f.part.now))) t u
  unfolding mark
  split-here h p = rw (split_step f.place (front f.part.now), ← e, ne_eqb g And h) p

  module _ (m : g ≡ Not → ⊥) (l : g ≡ Or → ⊥) (b : Bool) (o : b ≡ between Eq Ge g) where
    pub negated-here : b ≡ true → Lists ((f.place % 32768 + 32768) ∷ []) t u → Lists (marks (negated f.place (front f.part.now))) t u
    unfolding mark
    negated-here h p = rw (negated-step f.place (front f.part.now), ← e, ne_eqb g Not m, ne_eqb g Or l, ← o, h) p

    pub negated-other : b ≡ false → Lists (marks (negated f.place (front f.part.now))) t t
    negated-other h = rw (negated-step f.place (front f.part.now), ← e, ne_eqb g Not m, ne_eqb g Or l, ← o, h) (lists-none t)

  module _ (x : Fields) (z : x.place ≡ f.place + 3) (r : fields x.rest.now ≡ parts (front f.part.now)) where
    pub split_parts : g ≡ And → Lists (marks (split_each x.place (fields x.rest.now))) t u → Lists (marks (split_and f.place (front f.part.now))) t u
    split_parts h p = rw (split_step f.place (front f.part.now), ← e, eq-eqb g And h, ← z, ← r) p

    pub negated-not : g ≡ Not → Lists (marks (split_first x.place (fields x.rest.now))) t u → Lists (marks (negated f.place (front f.part.now))) t u
    negated-not h p = rw (negated-step f.place (front f.part.now), ← e, eq-eqb g Not h, ← z, ← r) p

    pub negated-or : (g ≡ Not → ⊥) → g ≡ Or → Lists (marks (negated_each x.place (fields x.rest.now))) t u → Lists (marks (negated f.place (front f.part.now))) t u
    negated-or h l p = rw (negated-step f.place (front f.part.now), ← e, ne_eqb g Not h, eq-eqb g Or l, ← z, ← r) p

-- the first of a row; nothing where no whole field stands there
module _ (s : Fields) (t : Table ℕ) where
  pub none-split : whole s.rest.now ≡ false → Lists (marks (split_first s.place (fields s.rest.now))) t t
  unfolding split_first
  none-split w = rw (fields-end s.rest.now w) (lists-none t)

  module _ (f : Found) (b : Fields) (h : Step s f b) (u : Table ℕ) where
    first-split : split_first s.place (fields s.rest.now) ≡ split_and f.place (front f.part.now)
    unfolding split_first
    first-split = ap (split_first s.place) (fields-next s.rest.now h.there) ∙ rw (h.place, h.part)

    pub front-split : Lists (marks (split_and f.place (front f.part.now))) t u → Lists (marks (split_first s.place (fields s.rest.now))) t u
    front-split p = rw first-split p

    first-negated : negated_first s.place (fields s.rest.now) ≡ negated f.place (front f.part.now)
    unfolding negated_first
    first-negated = ap (negated_first s.place) (fields-next s.rest.now h.there) ∙ rw (h.place, h.part)

-- of a clause or a guard, with its expression
module _ (f : Found) (x : Fields) (z : x.place ≡ f.place + 3) (r : fields x.rest.now ≡ parts (front f.part.now))
    (t : List ℕ) (none : Table ℕ) (i : none.items.now ≡ t) (j : none.count ≡ 0) where
  pub none-listed : whole x.rest.now ≡ false → Listed (marks (conditions_of (shown f))) t 0 none.items.now none.count
  unfolding conditions_of split_first negated_first
  none-listed w = rw (← r, fields-end x.rest.now w, i, j) (go (eqb (tag (front f.part.now)) Denies))
    where
      go : (b : Bool) → Listed (marks (cond b [] [])) t 0 t 0
      go true = listed-none t 0
      go false = listed-none t 0

  pub one-listed : (g : ℕ) → g ≡ tag (front f.part.now) → (h : Found) (b : Fields) → Step x h b → (u : Table ℕ) →
      Lists (marks (cond (eqb g Denies) (negated h.place (front h.part.now)) (split_and h.place (front h.part.now)))) none u →
      Listed (marks (conditions_of (shown f))) t 0 u.items.now u.count
  unfolding conditions_of
  one-listed g e h b s u p = rw (← e, ← z, ← r, first-negated x none h b s u, first-split x none h b s u) (rw (i, j) at p.listed)

-- Why the walk ends: the parts of an expression are shorter by three bytes, which pays for the two calls in between
pub each-falls : (f : Found) (x : Fields) → x.rest.now ≡ take (sizes (parts (front f.part.now))) (drop 3 f.part.now) → (t : ℕ) → 2 * length f.part.now ≡ t →
    2 * length x.rest.now + 2 < t
each-falls f x e t h = omega (arith, parts-shorter f.part.now f.there x.rest.now e)

-- Along a row of fields, each of which is denied or required

abbrev one : (denied : Bool) → ℕ → Field → List ℕ
one denied n f = marks (cond denied (negated n f) (split_and n f))

abbrev pub each : (denied : Bool) → ℕ → Tree → List ℕ
each denied n fs = marks (cond denied (negated_each n fs) (split_each n fs))

pub conditions : (denied : Bool) → Gathers (one denied) (each denied)
unfolding split_each negated_each
conditions true =
    record {
      none = λ n r. refl;
      more = λ n f fs. map-append mark (negated n f) (negated_each (n + size f) fs);
      few = λ n f. rw (length-map (negated n f) mark) (negated-few n f);
    }
conditions false =
    record {
      none = λ n r. refl;
      more = λ n f fs. map-append mark (split_and n f) (split_each (n + size f) fs);
      few = λ n f. rw (length-map (split_and n f) mark) (split-few n f);
    }

module _ (denied : Bool) (f : Found) (t u : Table ℕ) where
  pub as-denied : denied ≡ true → Lists (marks (negated f.place (front f.part.now))) t u → Lists (one denied f.place (front f.part.now)) t u
  as-denied e p = rw e p

  pub as-required : denied ≡ false → Lists (marks (split_and f.place (front f.part.now))) t u → Lists (one denied f.place (front f.part.now)) t u
  as-required e p = rw e p
