-- Equality is symmetric and transitive, since the comparison of tags and of texts is, and each part has one counterpart.
use Rattle.std.proofs.Common.{ℕ, ◌≡◌, refl, ◌∙◌, Bool, true, false, ◌&&◌, ◌||◌, List, eqb-true, eq-eqb, eqb}
use mathlib.Core.Bool.{and-false}
use Rattle.laws.specs.Texts.{same_bytes}
use Rattle.laws.proofs.Numbers.{number-symmetric}
use Rattle.laws.proofs.Texts.{bytes-equal, bytes_same, bytes-symmetric, bytes-transitive}
use Rattle.laws.proofs.Truths.{and_left, and_right}
use Rattle.tags.specs.Tag.{Name, Integer, String, Identifier, Caller, Now, composite}
use Rattle.fields.specs.Field.{Field, Fields, tag, nothing}
use Rattle.fields.specs.Field.Field.{field}
use Rattle.fields.specs.Field.Fields.{end, next}
use Rattle.equality.specs.Equality.{strip, same_text, expr_eq, parts_eq}

-- a missing part equals nothing: its tag, 0, is of no expression
pub nothing_left : (f : Field) → expr_eq nothing f ≡ false
unfolding expr_eq same_text composite
nothing_left (field u y qs) = rw (and-false (eqb 0 u))

-- the tags are compared first
pub other_tag : (f g : Field) → eqb (tag f) (tag g) ≡ false → expr_eq f g ≡ false
unfolding expr_eq
other_tag (field t x ps) (field u y qs) e = rw e

-- texts that are the same are the same without underscores
stripped : (k : Bool) (x y : List ℕ) → same_bytes (strip x) (strip y) || k && same_bytes x y ≡ true → same_bytes (strip x) (strip y) ≡ true
stripped k x y e = go (same_bytes (strip x) (strip y)) refl
  where
    go : (j : Bool) → same_bytes (strip x) (strip y) ≡ j → same_bytes (strip x) (strip y) ≡ true
    go true h = h
    go false h = rw (bytes-equal x y (and_right k (same_bytes x y) (rw h at e))) (bytes_same (strip y))

module _ (t : ℕ) where
  text-symmetric : (x y : List ℕ) → same_text t x y ≡ same_text t y x
  unfolding same_text
  text-symmetric x y = rw (bytes-symmetric (strip x) (strip y), bytes-symmetric x y)

  text-transitive : (x y z : List ℕ) → same_text t x y ≡ true → same_text t y z ≡ true → same_text t x z ≡ true
  unfolding same_text
  text-transitive x y z e f = go (eqb t Caller || eqb t Now) (eqb t Integer) (eqb t Name || eqb t String || eqb t Identifier) e f
    where
      test : Bool → Bool → Bool → List ℕ → List ℕ → Bool
      test i j k x y = i || j && same_bytes (strip x) (strip y) || k && same_bytes x y

      go : (i j k : Bool) → test i j k x y ≡ true → test i j k y z ≡ true → test i j k x z ≡ true
      go true j k e f = refl
      go false true k e f = rw (bytes-transitive (strip x) (strip y) (strip z) (stripped k x y e) (stripped k y z f))
      go false false true e f = bytes-transitive x y z e f
      go false false false e f = e

  -- a tag with parts has no text to compare
  content-transitive : (k : Bool) (x y z : List ℕ) → k || same_text t x y ≡ true → k || same_text t y z ≡ true → k || same_text t x z ≡ true
  content-transitive true x y z e f = refl
  content-transitive false x y z e f = text-transitive x y z e f

-- two fields are equal exactly where their tags, their texts (of a tag without parts) and their parts are
module _ (t u : ℕ) (x y : List ℕ) (ps qs : Fields) where
  equal_by : t ≡ u → composite t || same_text t x y ≡ true → parts_eq ps qs ≡ true → expr_eq (field t x ps) (field u y qs) ≡ true
  unfolding expr_eq
  equal_by e f g = rw (eq-eqb t u e, f, g)

  pub equal-in : expr_eq (field t x ps) (field u y qs) ≡ true →
      (t ≡ u) × (composite t || same_text t x y ≡ true) × (parts_eq ps qs ≡ true)
  unfolding expr_eq
  equal-in e =
      let h = and_left (eqb t u && (composite t || same_text t x y)) (parts_eq ps qs) e in (
        eqb-true t u (and_left (eqb t u) (composite t || same_text t x y) h),
        and_right (eqb t u) (composite t || same_text t x y) h,
        and_right (eqb t u && (composite t || same_text t x y)) (parts_eq ps qs) e,
      )

  swapped : parts_eq ps qs ≡ parts_eq qs ps → expr_eq (field t x ps) (field u y qs) ≡ expr_eq (field u y qs) (field t x ps)
  unfolding expr_eq
  swapped e = go (eqb t u) refl
    where
      go : (k : Bool) → eqb t u ≡ k → expr_eq (field t x ps) (field u y qs) ≡ expr_eq (field u y qs) (field t x ps)
      go true h = rw (eqb-true t u h, text-symmetric u x y, e)
      go false h = rw (number-symmetric u t, h)

mutual
  unfolding parts_eq

  -- tags and texts compare the same either way round, and so do the parts
  pub expr-symmetric : (f g : Field) → expr_eq f g ≡ expr_eq g f
  expr-symmetric (field t x ps) (field u y qs) = swapped t u x y ps qs (parts-symmetric ps qs)

  -- each part has the same counterpart either way round
  pub parts-symmetric : (ps qs : Fields) → parts_eq ps qs ≡ parts_eq qs ps
  parts-symmetric (end r) (end s) = refl
  parts-symmetric (end r) (next g gs) = refl
  parts-symmetric (next f fs) (end s) = refl
  parts-symmetric (next f fs) (next g gs) = rw (expr-symmetric f g, parts-symmetric fs gs)

-- the other way round
pub nothing_right : (f : Field) → expr_eq f nothing ≡ false
nothing_right f = expr-symmetric f nothing ∙ nothing_left f

mutual
  unfolding parts_eq

  -- three fields of one tag; the texts and the parts are the same by way of the second field's
  pub expr-transitive : (f g h : Field) → expr_eq f g ≡ true → expr_eq g h ≡ true → expr_eq f h ≡ true
  expr-transitive (field t x ps) (field u y qs) (field v z rs) e f =
      let (i, j, k) = equal-in t u x y ps qs e in
      let (l, m, n) = equal-in u v y z qs rs f in
      equal_by t v x z ps rs (i ∙ l) (content-transitive t (composite t) x y z j (rw i m)) (parts-transitive ps qs rs k n)

  -- three lists of one length, and each part by way of its counterpart in the second
  pub parts-transitive : (ps qs rs : Fields) → parts_eq ps qs ≡ true → parts_eq qs rs ≡ true → parts_eq ps rs ≡ true
  parts-transitive (end r) (end s) rs e f = f
  parts-transitive (end r) (next g gs) rs e f = cc
  parts-transitive (next f fs) (end s) rs e g = cc
  parts-transitive (next f fs) (next g gs) (end r) e k = k
  parts-transitive (next f fs) (next g gs) (next h hs) e k =
      rw (
        expr-transitive f g h (and_left (expr_eq f g) (parts_eq fs gs) e) (and_left (expr_eq g h) (parts_eq gs hs) k),
        parts-transitive fs gs hs (and_right (expr_eq f g) (parts_eq fs gs) e) (and_right (expr_eq g h) (parts_eq gs hs) k),
      )
