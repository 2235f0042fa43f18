-- The raises of an entry are the statements that raise the field, each of which sets or adds.
use Rattle.std.proofs.Common.{ℕ, ◌≤◌, ◌≡◌, refl, sym, ◌∙◌, Bool, true, false, cond, not, ◌&&◌, ◌||◌, List, [], ◌∷◌, map, arith, leb-true, le-leb, eqb, leb}
use mathlib.Core.List.{flat_map}
use borrow.Author.Tests.{not-true, eqb-false}
use Rattle.laws.specs.Lists.{any, filter}
use Rattle.laws.specs.Texts.{same_bytes}
use Rattle.laws.proofs.Lists.{any-first, filter-first}
use Rattle.laws.proofs.Truths.{and_left, and_right, or-none}
use Rattle.tags.specs.Tag.{Guard, Set, AddTo, SubtractFrom, ExpressionStatement, Add, Sub, between, is_assign}
use Rattle.fields.specs.Field.{Field, Fields, fields, tag, part, parts, row, fields_from}
use Rattle.model.specs.Model.{body}
use Rattle.walking.specs.Walking.{peel, ident}
use Rattle.raises.specs.Raises.{assigns, value, sets_from, raise, raises}
use Rattle.raises.specs.Raising.{is_raise, raised_by, raising}

module _ (r : List ℕ) where
  one-raise : (s : Field) → raise r s ≡ cond (not (eqb (tag s) SubtractFrom || sets_from Sub r s)) (raised_by r s ∷ []) []
  unfolding raise raised_by
  one-raise s = go (eqb (tag s) SubtractFrom || sets_from Sub r s) (sets_from Add r s)
    where
      go : (j k : Bool) → cond j [] (cond k (peel (part 1 (value s)) ∷ []) (value s ∷ [])) ≡ cond (not j) (cond k (peel (part 1 (value s))) (value s) ∷ []) []
      go true k = refl
      go false true = refl
      go false false = refl

  raise-each : (l : List Field) → flat_map (raise r) (filter (assigns r) l) ≡ map (raised_by r) (filter (is_raise r) l)
  unfolding flat_map is_raise
  raise-each [] = refl
  raise-each (s ∷ l) = go (assigns r s) (not (eqb (tag s) SubtractFrom || sets_from Sub r s)) (one-raise s) (raise-each l)
    where
      go : (j k : Bool) → raise r s ≡ cond k (raised_by r s ∷ []) [] → flat_map (raise r) (filter (assigns r) l) ≡ map (raised_by r) (filter (is_raise r) l) →
          flat_map (raise r) (cond j (s ∷ filter (assigns r) l) (filter (assigns r) l))
          ≡ map (raised_by r) (cond (j && k) (s ∷ filter (is_raise r) l) (filter (is_raise r) l))
      go true true d e = rw (d, e)
      go true false d e = rw (d, e)
      go false k d e = e

  pub raises-chosen : (entry : Field) → raises r entry ≡ map (raised_by r) (filter (is_raise r) (body entry))
  unfolding raises
  raises-chosen entry = raise-each (body entry)

-- What raises sets or adds

module _ (name : List ℕ) (s : Field) (h : is_raise name s ≡ true) where
  abbrev t : ℕ
  t = tag s

  abbrev lowering : Bool
  lowering = eqb t SubtractFrom || sets_from Sub name s

  is-assign : is_assign t ≡ true
  unfolding is_raise assigns
  is-assign = and_left (is_assign t) (same_bytes (ident (part 0 s)) name) (and_left (assigns name s) (not lowering) h)

  is-raise : lowering ≡ false
  unfolding is_raise
  is-raise = not-true lowering (and_right (assigns name s) (not lowering) h)

  from-set : Set ≤ t
  unfolding is_assign
  from-set = leb-true Set t (and_left (leb Set t) (leb t SubtractFrom) is-assign)

  to-add : t ≤ AddTo
  unfolding is_assign
  to-add =
      let a : t ≤ SubtractFrom = leb-true t SubtractFrom (and_right (leb Set t) (leb t SubtractFrom) is-assign) in
      let b : t ≡ SubtractFrom → ⊥ = eqb-false t SubtractFrom (or-none (eqb t SubtractFrom) (sets_from Sub name s) is-raise) in
      omega (arith, b)

  raise-tag : between Set AddTo t ≡ true
  raise-tag = rw (le-leb Set t from-set, le-leb t AddTo to-add)

  statement-tag : between Guard ExpressionStatement t ≡ true
  statement-tag = rw (le-leb Guard t (omega (arith, from-set)), le-leb t ExpressionStatement (omega (arith, to-add)))

-- so another tag is of no raise
pub no_raise : (name : List ℕ) (s : Field) → (tag s ≡ Set → ⊥) → (tag s ≡ AddTo → ⊥) → false ≡ is_raise name s
no_raise name s n o = go (is_raise name s) refl
  where
    go : (k : Bool) → is_raise name s ≡ k → false ≡ k
    go true h = absurd (omega (arith, from-set name s h, to-add name s h))
    go false h = refl

-- so of a row of fields only those are raises that set or add, and only statements
module _ (name : List ℕ) (fs : Fields) where
  pub raises-in : filter (is_raise name) (fields_from Guard ExpressionStatement fs) ≡ filter (is_raise name) (row fs)
  unfolding fields_from
  raises-in = filter-first (is_raise name) (λ f. between Guard ExpressionStatement (tag f)) (statement-tag name) (row fs)

  pub raises-only : filter (is_raise name) (fields_from Set AddTo fs) ≡ filter (is_raise name) (fields_from Guard ExpressionStatement fs)
  unfolding fields_from
  raises-only = filter-first (is_raise name) (λ f. between Set AddTo (tag f)) (raise-tag name) (row fs) ∙ sym raises-in

pub any-raise : (name : List ℕ) (entry : Field) (p t : List ℕ) → t ≡ p → fields p ≡ parts entry → any (is_raise name) (row (fields t)) ≡ raising name entry
unfolding raising body fields_from
any-raise name entry p t e f =
    rw (e, f) (sym (any-first (is_raise name) (λ g. between Guard ExpressionStatement (tag g)) (statement-tag name) (row (parts entry))))
