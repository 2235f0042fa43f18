-- `find` over a row of fields stops at the first that passes, and those that pass behind it are still ahead.
use Rattle.std.proofs.Common.{ℕ, ◌≤◌, ◌≡◌, refl, ap, ◌∙◌, Bool, true, false, cond, ◌&&◌, List, [], ◌∷◌, Option, Some, None, arith, eqb, length}
use denote.Param.Members.{Mut}
use denote.Ref.{Bor}
use Rattle.std.specs.Bool.{⊤}
use Rattle.std.specs.Fn.{CalledAt}
use Rattle.std.specs.Iterator.{YieldsThen}
use Rattle.std.specs.List.{FoldsTo}
use Rattle.std.specs.Option.{MatchOption, IfSome}
use Rattle.laws.specs.Lists.{filter}
use Rattle.tags.specs.Tag.{Guard, between}
use Rattle.tags.proofs.Ranges.{between-one}
use Rattle.fields.specs.Field.{Field, Fields, fields, row, tag, front, whole, after, fields_from}
use Rattle.fields.specs.Row.{Steps}
use Rattle.fields.specs.declared.field.Fields.{Fields as Row}
use Rattle.fields.specs.declared.field.Field.{Field as Found}
use Rattle.fields.proofs.Reading.{fields-next, fields-end, after_less}
use Rattle.guards.specs.Bounding.{bounds, bounding, bounding_from}

-- those that pass, in a row that starts with one field or with none
module _ (test : Field → Bool) (s : List ℕ) where
  none-passes : whole s ≡ false → filter test (row (fields s)) ≡ []
  unfolding row
  none-passes w = rw (fields-end s w)

  row-next : whole s ≡ true → row (fields s) ≡ front s ∷ row (fields (after s))
  unfolding row
  row-next w = ap row (fields-next s w)

  some-pass : whole s ≡ true → (k : Bool) → k ≡ test (front s) →
      filter test (row (fields s)) ≡ cond k (front s ∷ filter test (row (fields (after s)))) (filter test (row (fields (after s))))
  some-pass w k e = rw (row-next w, e)

-- what `find` gives
abbrev pub ahead : (Field → Bool) → Option Found → List Field
ahead test None = []
ahead test (Some p) = front p.part.now ∷ filter test (row (fields (after p.part.now)))

pub record Stops (test : Field → Bool) (s : Row) (r : Option Found) : Type 0 where
  pub found : filter test (row (fields s.rest.now)) ≡ ahead test r
  pub within : IfSome r (λ p. length p.part.now ≤ length s.rest.now)

no-longer : (r : Option Found) (m n : ℕ) → m ≤ n → IfSome r (λ p. length p.part.now ≤ m) → IfSome r (λ p. length p.part.now ≤ n)
no-longer None m n h w = tt
no-longer (Some p) m n h w = omega (arith, h, w)

module _ {F : Type 0} (g : Mut F (Bor Found × Unit {0}) Bool) (test : Field → Bool) (f : F)
    (answers : (x : Found) (b : Bool) (q : F) → CalledAt g f x b q → (q ≡ f) × (b ≡ test (front x.part.now))) where
  stops-here : (s u : Row) (r : Option Found) → Steps s r u → MatchOption r ⊤ (λ x. (h : F) × CalledAt g f x true h) → Stops test s r
  stops-here s u None w c = record { found = none-passes test s.rest.now w; within = tt }
  stops-here s u (Some p) h c = record {
    found = rw h.part (some-pass test s.rest.now h.there true (rw (← h.part) (answers p true c.0 c.1).1));
    within = rw h.part (omega arith);
  }

  pub stops : (xs : List Found) (s u : Row) (r : Option Found) (j : F) → YieldsThen Steps s xs r u → FoldsTo (λ p x q. CalledAt g p x false q) f xs j →
      MatchOption r ⊤ (λ x. (h : F) × CalledAt g j x true h) → Stops test s r
  stops [] s u r j y c m = stops-here s u r (rw (y.1) y.2) (rw c m)
  stops (x ∷ xs) s u r j y c m =
      let h = y.1.1 in
      let a = answers x false c.0 c.1 in
      let behind = stops xs y.1.0 u r j (y.0, y.1.2, y.2) (rw a.0 at c.2) m in
      record {
        found = some-pass test s.rest.now h.there false (rw (← h.part) a.1) ∙ (rw h.rest at behind.found);
        within = no-longer r (length y.1.0.rest.now) (length s.rest.now) (omega (arith, after_less s.rest.now y.1.0.rest.now h.there h.rest)) behind.within;
      }

-- guards are told by their tag, and then by whether they bound the amount
module _ (amount : Field) where
  abbrev pub is_bounding : Field → Bool
  is_bounding f = eqb (tag f) Guard && bounds amount f

  both-tests : (l : List Field) → filter (bounds amount) (filter (λ f. between Guard Guard (tag f)) l) ≡ filter is_bounding l
  both-tests [] = refl
  both-tests (f ∷ l) = rw (between-one Guard (tag f)) (go (eqb (tag f) Guard) (both-tests l))
    where
      go : (k : Bool) → filter (bounds amount) (filter (λ f. between Guard Guard (tag f)) l) ≡ filter is_bounding l →
          filter (bounds amount) (cond k (f ∷ filter (λ f. between Guard Guard (tag f)) l) (filter (λ f. between Guard Guard (tag f)) l))
          ≡ cond (k && bounds amount f) (f ∷ filter is_bounding l) (filter is_bounding l)
      go true e = rw e
      go false e = e

  bounding-row : (fs : Fields) → bounding amount fs ≡ filter is_bounding (row fs)
  unfolding bounding fields_from
  bounding-row fs = both-tests (row fs)

  pub bounding-found : (s : List ℕ) (f : Row) → f.rest.now ≡ s → (r : Option Found) → Stops is_bounding f r → bounding amount (fields s) ≡ bounding_from amount r
  bounding-found s f e None h = bounding-row (fields s) ∙ (rw e at h.found)
  bounding-found s f e (Some g) h = bounding-row (fields s) ∙ rw (bounding-row (fields (after g.part.now))) (rw e at h.found)
