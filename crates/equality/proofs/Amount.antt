-- The `p.amount` of a parameter is compared part by part with what stands in the file: two parts without parts of their own,
-- and no third.
use Rattle.std.proofs.Common.{ℕ, ◌≡◌, refl, sym, ◌∙◌, Bool, true, false, not, ◌&&◌, List, [], eq-eqb, eqb-true, ne_eqb, eqb}
use mathlib.Core.Bool.{and-true}
use Rattle.laws.specs.Texts.{same_bytes, bytes}
use Rattle.laws.proofs.Numbers.{number-symmetric}
use Rattle.tags.specs.Tag.{Name, Identifier, Member, composite}
use Rattle.fields.specs.Field.{Field, Fields, field_with, fields, tag_of, whole, content, after, front, tag, text, parts}
use Rattle.fields.specs.Field.Field.{field}
use Rattle.fields.specs.Field.Fields.{end, next}
use Rattle.fields.proofs.Reading.{fields-next, fields-end, front-whole, front-none}
use Rattle.equality.specs.Equality.{same_text, expr_eq, parts_eq}
use Rattle.equality.specs.Amount.{amount_of}
use Rattle.equality.proofs.Equality.{nothing_right, other_tag}

-- the parts of s, one after the other
pub first_part : (f : Field) (fs : Fields) (s : List ℕ) → parts_eq (next f fs) (fields s) ≡ expr_eq f (front s) && parts_eq fs (fields (after s))
unfolding parts_eq
first_part f fs s = go (whole s) refl
  where
    go : (w : Bool) → whole s ≡ w → parts_eq (next f fs) (fields s) ≡ expr_eq f (front s) && parts_eq fs (fields (after s))
    go true w = cc (fields-next s w)
    go false w = cc (fields-end s w, front-none s w, nothing_right f)

pub no_part : (r s : List ℕ) → parts_eq (end r) (fields s) ≡ not (whole s)
unfolding parts_eq
no_part r s = go (whole s) refl
  where
    go : (w : Bool) → whole s ≡ w → parts_eq (end r) (fields s) ≡ not (whole s)
    go true w = cc (fields-next s w)
    go false w = cc (fields-end s w)

-- a field without parts, whose text is compared as it stands
module _ (t : ℕ) (c : composite t ≡ false) (z : eqb 0 t ≡ false) (same : (x y : List ℕ) → same_text t x y ≡ same_bytes x y) (x : List ℕ) where
  leaf-of : (f : Field) (u : ℕ) (y : List ℕ) → f ≡ field_with u y → expr_eq (field t x (end [])) f ≡ eqb (tag f) t && same_bytes x (text f)
  unfolding expr_eq parts_eq
  leaf-of f u y e = go (eqb u t) (composite u) refl refl
    where
      go : (k j : Bool) → eqb u t ≡ k → composite u ≡ j → expr_eq (field t x (end [])) f ≡ eqb (tag f) t && same_bytes x (text f)
      go true true h i = cc (eqb-true u t h)
      go true false h i = cc (eqb-true u t h, same x y, eq-eqb t t refl, and-true (same_bytes x y))
      go false true h i = cc (number-symmetric t u)
      go false false h i = cc (number-symmetric t u)

  pub leaf : (s : List ℕ) → expr_eq (field t x (end [])) (front s) ≡ eqb (tag (front s)) t && same_bytes x (text (front s))
  leaf s = go (whole s) refl
    where
      go : (w : Bool) → whole s ≡ w → expr_eq (field t x (end [])) (front s) ≡ eqb (tag (front s)) t && same_bytes x (text (front s))
      go true w = leaf-of (front s) (tag_of s) (content s) (front-whole s w)
      go false w = rw (front-none s w, nothing_right (field t x (end [])), z)

-- an identifier and a name have such texts
pub identifier-is : (x s : List ℕ) → expr_eq (field Identifier x (end [])) (front s) ≡ eqb (tag (front s)) Identifier && same_bytes x (text (front s))
unfolding composite same_text
identifier-is = leaf Identifier refl refl (λ x y. refl)

pub name-is : (x s : List ℕ) → expr_eq (field Name x (end [])) (front s) ≡ eqb (tag (front s)) Name && same_bytes x (text (front s))
unfolding composite same_text
name-is = leaf Name refl refl (λ x y. refl)

-- a member of exactly those two
module _ (p s : List ℕ) (g : ℕ) (e : g ≡ tag (front s)) where
  pub no_member : (g ≡ Member → ⊥) → false ≡ expr_eq (amount_of p) (front s)
  no_member n = sym (other_tag (amount_of p) (front s) (number-symmetric Member (tag (front s)) ∙ ne_eqb (tag (front s)) Member (λ h. n (e ∙ h))))

  member_of : (f : Field) → tag f ≡ Member → expr_eq (amount_of p) f ≡ parts_eq (parts (amount_of p)) (parts f)
  unfolding expr_eq composite
  member_of (field t x ps) h = rw h

  module _ (h : g ≡ Member) (x : List ℕ) (i : fields x ≡ parts (front s)) (y : List ℕ) (j : y ≡ after x) (z : List ℕ) (k : z ≡ after y) where
    member-parts : expr_eq (amount_of p) (front s)
        ≡ (eqb (tag (front x)) Identifier && same_bytes p (text (front x))) && ((eqb (tag (front y)) Name && same_bytes (bytes "amount") (text (front y))) && not (whole z))
    member-parts =
        rw (
          member_of (front s) (sym e ∙ h),
          ← i,
          first_part (field Identifier p (end [])) (next (field Name (bytes "amount") (end [])) (end [])) x,
          identifier-is p x,
          ← j,
          first_part (field Name (bytes "amount") (end [])) (end []) y,
          name-is (bytes "amount") y,
          ← k,
          no_part [] z,
        )

    pub member_is : (t u : ℕ) (v w : List ℕ) (a b c : Bool) → t ≡ tag (front x) → v ≡ text (front x) → a ≡ same_bytes p v →
        u ≡ tag (front y) → w ≡ text (front y) → b ≡ same_bytes (bytes "amount") w → c ≡ whole z →
        (((eqb t Identifier && a) && eqb u Name) && b) && not c ≡ expr_eq (amount_of p) (front s)
    member_is t u v w a b c tx vx ax ty vy by cz =
        rw (tx, ax, vx, ty, by, vy, cz, member-parts) (go (eqb (tag (front x)) Identifier && same_bytes p (text (front x))) (eqb (tag (front y)) Name))
      where
        go : (i j : Bool) → ((i && j) && same_bytes (bytes "amount") (text (front y))) && not (whole z) ≡ i && ((j && same_bytes (bytes "amount") (text (front y))) && not (whole z))
        go true j = refl
        go false j = refl
