-- Reading unfolds by one field, and goes on with fewer bytes: more steps than there are bytes change nothing.
use Rattle.std.proofs.Common.{ℕ, zero, suc, ◌+◌, ◌*◌, ◌≤◌, ◌<◌, ◌≡◌, refl, ap₂, sym, ◌∙◌, List, [], Bool, true, false, cond, arith, leb-true, leb-false, length, length-take, length-drop}
use Rattle.std.proofs.Common.{drop_of_length-le}
use borrow.Author.Tests.{lt-leb}
use Rattle.fields.specs.Field.{Field, Fields, fields, fields_to, field_with, tag_of, length_of, whole, content, after, front, nth, nothing}
use Rattle.fields.specs.Field.Field.{field}
use Rattle.fields.specs.Field.Fields.{end, next}
use Rattle.tags.specs.Tag.{composite}

-- where a whole field stands at the front, its content and what is behind it are shorter
module _ (s : List ℕ) (w : whole s ≡ true) where
  pub content-shorter : length (content s) + 3 ≤ length s
  content-shorter =
      let h : 3 + length_of s ≤ length s = leb-true _ _ w in
      simp (length-take, length-drop) (omega arith)

  pub after-shorter : length (after s) + 3 ≤ length s
  after-shorter =
      let h : 3 + length_of s ≤ length s = leb-true _ _ w in
      simp length-drop (omega arith)

-- where none does, nothing is left behind it
pub after_none : (s : List ℕ) → whole s ≡ false → after s ≡ []
after_none s w = let h : length s < 3 + length_of s = leb-false _ _ w in drop_of_length-le s {i = 3 + length_of s} (omega arith)

-- the field at the front of s, whose content as fields is ps: the content is those fields, or a text
abbrev field_of : List ℕ → Fields → Field
field_of s ps = cond (composite (tag_of s)) (field (tag_of s) [] ps) (field (tag_of s) (content s) (end []))

-- one step of reading, with what was read of the content and behind the field
abbrev read_with : List ℕ → Fields → Fields → Fields
read_with s ps fs = cond (whole s) (next (field_of s ps) fs) (end s)

-- two readings of the content and of what is behind the field that agree give the same step
step-with : (s : List ℕ) (ps qs fs gs : Fields) → (whole s ≡ true → ps ≡ qs) → (whole s ≡ true → fs ≡ gs) → read_with s ps fs ≡ read_with s qs gs
step-with s ps qs fs gs e f = go (whole s) refl
  where
    go : (w : Bool) → whole s ≡ w → read_with s ps fs ≡ read_with s qs gs
    go false w = rw w
    go true w = ap₂ (λ x y. read_with s x y) (e w) (f w)

-- the definition as such a step
step-to : (n : ℕ) (s : List ℕ) → fields_to (suc n) s ≡ read_with s (fields_to n (content s)) (fields_to n (after s))
unfolding fields_to
step-to n s = go (whole s) (composite (tag_of s)) refl refl
  where
    go : (j k : Bool) → whole s ≡ j → composite (tag_of s) ≡ k → fields_to (suc n) s ≡ read_with s (fields_to n (content s)) (fields_to n (after s))
    go false k w c = cc
    go true true w c = cc
    go true false w c = cc

-- no bytes, no field, however many steps
none : (n : ℕ) (s : List ℕ) → length s ≤ 0 → fields_to n s ≡ end s
unfolding fields_to
none zero s h = refl
none (suc n) s h = step-to n s ∙ simp (lt-leb (3 + length_of s) (length s) (omega arith))

enough : (n m : ℕ) (s : List ℕ) → length s ≤ n → length s ≤ m → fields_to n s ≡ fields_to m s
unfolding fields_to
enough zero m s h k = sym (none m s h)
enough (suc n) zero s h k = none (suc n) s k
enough (suc n) (suc m) s h k =
    step-to n s
    ∙ step-with s _ _ _ _
    (λ w. enough n m (content s) (omega (arith, content-shorter s w)) (omega (arith, content-shorter s w)))
    (λ w. enough n m (after s) (omega (arith, after-shorter s w)) (omega (arith, after-shorter s w)))
    ∙ sym (step-to m s)

-- reading unfolds by one field
pub fields-step : (s : List ℕ) → fields s ≡ cond (whole s) (next (field_with (tag_of s) (content s)) (fields (after s))) (end s)
unfolding fields
fields-step s =
    enough (length s) (suc (length s)) s (omega arith) (omega arith)
    ∙ step-to (length s) s
    ∙ step-with s _ _ _ _
    (λ w. enough (length s) (length (content s)) (content s) (omega (arith, content-shorter s w)) (omega arith))
    (λ w. enough (length s) (length (after s)) (after s) (omega (arith, after-shorter s w)) (omega arith))

-- the fields of s and the one at its front, by whether a whole field stands there
module _ (s : List ℕ) where
  module _ (w : whole s ≡ true) where
    pub fields-next : fields s ≡ next (front s) (fields (after s))
    unfolding nth
    fields-next = rw (fields-step s, w)

    pub front-whole : front s ≡ field_with (tag_of s) (content s)
    unfolding nth
    front-whole = rw (fields-step s, w)

  module _ (w : whole s ≡ false) where
    pub fields-end : fields s ≡ end s
    fields-end = rw (fields-step s, w)

    pub front-none : front s ≡ nothing
    unfolding nth
    front-none = rw (fields-step s, w)

-- induction on what is read: where no whole field stands at the front, and from the content and what is behind it
module _ (P : List ℕ → Type 0) (none-whole : (s : List ℕ) → whole s ≡ false → P s)
    (one_more : (s : List ℕ) → whole s ≡ true → P (content s) → P (after s) → P s) where
  one-step : (n : ℕ) → ((t : List ℕ) → length t ≤ n → P t) → (s : List ℕ) → length s ≤ suc n → (w : Bool) → whole s ≡ w → P s
  one-step n f s h false e = none-whole s e
  one-step n f s h true e =
      let l = content-shorter s e in
      let m = after-shorter s e in
      one_more s e (f (content s) (omega arith)) (f (after s) (omega arith))

  induct : (n : ℕ) (s : List ℕ) → length s ≤ n → P s
  induct zero s h = none-whole s (lt-leb (3 + length_of s) (length s) (omega arith))
  induct (suc n) s h = one-step n (induct n) s h (whole s) refl

  pub by-fields : (s : List ℕ) → P s
  by-fields s = induct (length s) s (omega arith)

-- why a walk ends: at the measure 2 * length for a field, and one more for the loop over the fields of a part
pub content-falls : (s x : List ℕ) (t : ℕ) → whole s ≡ true → 2 * length s ≡ t → x ≡ content s → 2 * length x + 1 < t
content-falls s x t w e h = let l = content-shorter s w in rw h (omega arith)

-- why a loop over the fields of a part ends
pub after_less : (s x : List ℕ) → whole s ≡ true → x ≡ after s → length x < length s
after_less s x w h = let l = after-shorter s w in rw h (omega arith)
