-- What is known of two parts of the file at each answer of expr_eq and parts_eq: a field that is not whole equals nothing,
-- a text or the parts decide where the tags are the same, and parts are equal one by one.
use Rattle.std.proofs.Common.{ℕ, ◌≤◌, ◌≡◌, refl, sym, ◌∙◌, Bool, true, false, not, ◌&&◌, List, Option, Some, None, arith, eqb-true, eqb, length}
use mathlib.Core.Bool.{and-true}
use Rattle.std.specs.Option.{is_some}
use borrow.Author.Tests.{not-true, not-false}
use Rattle.laws.proofs.Truths.{and_left, and_right}
use Rattle.tags.specs.Tag.{composite}
use Rattle.fields.specs.Field.{fields, tag_of, whole, content, after, front}
use Rattle.fields.specs.Row.{Step, Steps}
use Rattle.fields.specs.declared.field.Fields.{Fields as Parts}
use Rattle.fields.specs.declared.field.Field.{Field as Found}
use Rattle.fields.proofs.Parts.{tag-front}
use Rattle.fields.proofs.Reading.{fields-next, fields-end, front-whole, front-none, after_less}
use Rattle.equality.specs.Equality.{same_text, expr_eq, parts_eq, same_tag}
use Rattle.equality.proofs.Equality.{nothing_left, nothing_right, other_tag}

-- a field that is not whole is no field, and equals nothing
none_right : (a b : List ℕ) → whole b ≡ false → expr_eq (front a) (front b) ≡ false
none_right a b q = rw (front-none b q) (nothing_right (front a))

-- w is what same-tag says of a and b
module _ (a b : List ℕ) (w : Bool) (o : w ≡ same_tag a b) where
  pub tags-differ : not w ≡ true → false ≡ expr_eq (front a) (front b)
  tags-differ n = sym (go (whole a) (whole b) refl refl (sym o ∙ not-true w n))
    where
      go : (j k : Bool) → whole a ≡ j → whole b ≡ k → same_tag a b ≡ false → expr_eq (front a) (front b) ≡ false
      go false k p q e = rw (front-none a p) (nothing_left (front b))
      go true false p q e = none_right a b q
      go true true p q e =
          other_tag (front a) (front b) (rw (← tag-front a (tag_of a) p refl, ← tag-front b (tag_of b) q refl) (rw (p, q) at e))

  module _ (n : not w ≡ false) where
    same : same_tag a b ≡ true
    same = sym o ∙ not-false w n

    pub left-whole : whole a ≡ true
    left-whole = and_left (whole a) (whole b) (and_left (whole a && whole b) (eqb (tag_of a) (tag_of b)) same)

    right-whole : whole b ≡ true
    right-whole = and_right (whole a) (whole b) (and_left (whole a && whole b) (eqb (tag_of a) (tag_of b)) same)

    one_tag : eqb (tag_of a) (tag_of b) ≡ true
    one_tag = and_right (whole a && whole b) (eqb (tag_of a) (tag_of b)) same

    module _ (t : ℕ) (f : t ≡ tag_of a) (k : Bool) (c : k ≡ composite t) (x y : List ℕ) (g : x ≡ content a) (h : y ≡ content b) (r : Bool) where
      pub parts-decide : k ≡ true → r ≡ parts_eq (fields x) (fields y) → r ≡ expr_eq (front a) (front b)
      unfolding expr_eq
      parts-decide m d = cc (front-whole a left-whole, front-whole b right-whole, one_tag, eqb-true (tag_of a) (tag_of b) one_tag)

      pub texts-decide : k ≡ false → r ≡ same_text t x y → r ≡ expr_eq (front a) (front b)
      unfolding expr_eq parts_eq
      texts-decide m d = cc (front-whole a left-whole, front-whole b right-whole, one_tag, eqb-true (tag_of a) (tag_of b) one_tag, and-true r)

-- none is left on the first side
ended : (x y : List ℕ) → whole x ≡ false → (v : Bool) → v ≡ whole y → not v ≡ parts_eq (fields x) (fields y)
unfolding parts_eq
ended x y p true q = rw (fields-end x p, fields-next y (sym q))
ended x y p false q = rw (fields-end x p, fields-end y (sym q))

-- one is left there; where none is left on the second side, it equals nothing
one-step : (x y : List ℕ) → whole x ≡ true →
    parts_eq (fields x) (fields y) ≡ expr_eq (front x) (front y) && parts_eq (fields (after x)) (fields (after y))
unfolding parts_eq
one-step x y p = go (whole y) refl
  where
    go : (w : Bool) → whole y ≡ w →
        parts_eq (fields x) (fields y) ≡ expr_eq (front x) (front y) && parts_eq (fields (after x)) (fields (after y))
    go true q = cc (fields-next x p, fields-next y q)
    go false q = cc (fields-next x p, fields-end y q, none_right x y q)

-- the loop over parts: what is left of both decides, and is no longer than what was asked
pub record Comparing (a b : List ℕ) (s o : Parts) : Type 0 where
  pub within : length s.rest.now ≤ length a
  pub left : parts_eq (fields s.rest.now) (fields o.rest.now) ≡ parts_eq (fields a) (fields b)

pub comparing-all : (a b : List ℕ) (s o : Parts) → s.rest.now ≡ a → o.rest.now ≡ b → Comparing a b s o
comparing-all a b s o e f = record { within = rw e (omega arith); left = rw (e, f) }

module _ (a b : List ℕ) (s o : Parts) (i : Comparing a b s o) where
  -- none is left on the first side, and the second gives r
  pub comparing-done : whole s.rest.now ≡ false → (r : Option Found) (u : Parts) → Steps o r u → (v : Bool) → is_some r ≡ not v → v ≡ parts_eq (fields a) (fields b)
  comparing-done w None u k true e = ended s.rest.now o.rest.now w false (sym k) ∙ i.left
  comparing-done w None u k false e = cc
  comparing-done w (Some q) u k true e = cc
  comparing-done w (Some q) u k false e = ended s.rest.now o.rest.now w true (sym k.there) ∙ i.left

  -- one is left there
  module _ (p : Found) (t : Parts) (h : Step s p t) where
    pub part-within : length p.part.now ≤ length a
    part-within = rw h.part i.within

    pub comparing-fewer : whole o.rest.now ≡ false → false ≡ parts_eq (fields a) (fields b)
    comparing-fewer w = rw (← i.left, one-step s.rest.now o.rest.now h.there, none_right s.rest.now o.rest.now w)

    module _ (q : Found) (u : Parts) (k : Step o q u) (v : Bool) (d : v ≡ expr_eq (front p.part.now) (front q.part.now)) where
      pub comparing-differ : v ≡ false → false ≡ parts_eq (fields a) (fields b)
      comparing-differ e = rw (← i.left, one-step s.rest.now o.rest.now h.there, ← h.part, ← k.part, ← d, e)

      pub comparing-on : v ≡ true → Comparing a b t u
      comparing-on e =
          record {
            within = rw h.rest (omega (arith, after_less s.rest.now (after s.rest.now) h.there refl, i.within));
            left = rw (h.rest, k.rest, ← i.left, one-step s.rest.now o.rest.now h.there, ← h.part, ← k.part, ← d, e);
          }
