-- The tag, the text and the parts of the field at the front of s, by what the readers test.
use Rattle.std.proofs.Common.{ℕ, ◌≡◌, refl, sym, ◌∙◌, Bool, true, false, cond, not, ◌&&◌, List, [], length, take, drop}
use Rattle.laws.proofs.Truths.{and_left}
use Rattle.tags.specs.Tag.{composite}
use Rattle.fields.specs.Field.{Field, Fields, fields, tag_of, whole, content, front, tag, text, parts, nothing, sizes}
use Rattle.fields.specs.Field.Field.{field}
use Rattle.fields.specs.Field.Fields.{end}
use Rattle.fields.proofs.Reading.{front-whole, front-none, fields-end}
use Rattle.fields.proofs.Places.{content-length, tree-size}

-- a field by the two tests, whether it is whole and whether it has parts
abbrev by_tests : Bool → Bool → ℕ → List ℕ → Fields → Field
by_tests u v t x ps = cond u (cond v (field t [] ps) (field t x (end []))) nothing

text-by : (u v : Bool) (t : ℕ) (x : List ℕ) (ps : Fields) → u && not v ≡ true → x ≡ text (by_tests u v t x ps)
text-by true true t x ps h = cc
text-by true false t x ps h = refl
text-by false v t x ps h = cc

no-text-by : (u v : Bool) (t : ℕ) (x : List ℕ) (ps : Fields) → u && not v ≡ false → [] ≡ text (by_tests u v t x ps)
no-text-by true true t x ps h = refl
no-text-by true false t x ps h = cc
no-text-by false v t x ps h = refl

parts-by : (u v : Bool) (t : ℕ) (x : List ℕ) (ps : Fields) → u && v ≡ true → ps ≡ parts (by_tests u v t x ps)
parts-by true true t x ps h = refl
parts-by true false t x ps h = cc
parts-by false v t x ps h = cc

no-parts-by : (u v : Bool) (t : ℕ) (x : List ℕ) (ps : Fields) → u && v ≡ false → end [] ≡ parts (by_tests u v t x ps)
no-parts-by true true t x ps h = cc
no-parts-by true false t x ps h = refl
no-parts-by false v t x ps h = refl

module _ (s : List ℕ) where
  -- the front by its two tests: a field with parts, with a text, or none
  front-is : front s ≡ by_tests (whole s) (composite (tag_of s)) (tag_of s) (content s) (fields (content s))
  front-is = go (whole s) refl
    where
      go : (w : Bool) → whole s ≡ w → front s ≡ by_tests (whole s) (composite (tag_of s)) (tag_of s) (content s) (fields (content s))
      go true w = rw (front-whole s w, w)
      go false w = rw (front-none s w, w)

  pub tag-front : (t : ℕ) → whole s ≡ true → t ≡ tag_of s → t ≡ tag (front s)
  tag-front t w e = rw (front-is, w) (go (composite (tag_of s)))
    where
      go : (k : Bool) → t ≡ tag (cond k (field (tag_of s) [] (fields (content s))) (field (tag_of s) (content s) (end [])))
      go true = e
      go false = e

  pub tag-none : whole s ≡ false → 0 ≡ tag (front s)
  tag-none w = rw (front-none s w)

  module _ (u v : Bool) (t : ℕ) (e : u ≡ whole s) (f : t ≡ tag_of s) (g : v ≡ composite t) where
    module _ (h : u && not v ≡ true) (x : List ℕ) (i : x ≡ content s) where
      pub text-front : x ≡ text (front s)
      text-front = rw (front-is, ← e, ← i, ← f, ← g) (text-by u v t x (fields x) h)

      pub text-shown : x ≡ take (length (text (front s))) (drop 3 s)
      text-shown = rw (← text-front, i, content-length s (sym e ∙ and_left u (not v) h))

    module _ (h : u && not v ≡ false) where
      pub no_text : [] ≡ text (front s)
      no_text = rw (front-is, ← e, ← f, ← g) (no-text-by u v t (content s) (fields (content s)) h)

      pub no-text-shown : [] ≡ take (length (text (front s))) (drop 3 s)
      no-text-shown = rw (← no_text)

    module _ (h : u && v ≡ true) (x : List ℕ) (i : x ≡ content s) where
      pub parts-front : fields x ≡ parts (front s)
      parts-front = rw (front-is, ← e, ← i, ← f, ← g) (parts-by u v t x (fields x) h)

      pub parts-shown : x ≡ take (sizes (parts (front s))) (drop 3 s)
      parts-shown = rw (← parts-front, tree-size x, i, content-length s (sym e ∙ and_left u v h))

    module _ (h : u && v ≡ false) where
      pub no-parts : fields [] ≡ parts (front s)
      no-parts = rw (fields-end [] refl, front-is, ← e, ← f, ← g) (no-parts-by u v t (content s) (fields (content s)) h)

      pub no-parts-shown : [] ≡ take (sizes (parts (front s))) (drop 3 s)
      no-parts-shown = rw (← no-parts, tree-size [])

-- the parts of the field at the front are read from the bytes behind its head
pub parts-bytes : (s : List ℕ) → parts (front s) ≡ fields (take (sizes (parts (front s))) (drop 3 s))
parts-bytes s = go (whole s && composite (tag_of s)) refl
  where
    shown : (x : List ℕ) → fields x ≡ parts (front s) → x ≡ take (sizes (parts (front s))) (drop 3 s) →
        parts (front s) ≡ fields (take (sizes (parts (front s))) (drop 3 s))
    shown x e f = cc

    go : (k : Bool) → whole s && composite (tag_of s) ≡ k → parts (front s) ≡ fields (take (sizes (parts (front s))) (drop 3 s))
    go true h =
        shown (content s) (parts-front s (whole s) (composite (tag_of s)) (tag_of s) refl refl refl h (content s) refl)
        (parts-shown s (whole s) (composite (tag_of s)) (tag_of s) refl refl refl h (content s) refl)
    go false h =
        shown [] (no-parts s (whole s) (composite (tag_of s)) (tag_of s) refl refl refl h)
        (no-parts-shown s (whole s) (composite (tag_of s)) (tag_of s) refl refl refl h)

-- and its text is the bytes behind its head
pub text-bytes : (s : List ℕ) → text (front s) ≡ take (length (text (front s))) (drop 3 s)
text-bytes s = go (whole s && not (composite (tag_of s))) refl
  where
    shown : (x : List ℕ) → x ≡ text (front s) → x ≡ take (length (text (front s))) (drop 3 s) → text (front s) ≡ take (length (text (front s))) (drop 3 s)
    shown x e f = sym e ∙ f

    go : (k : Bool) → whole s && not (composite (tag_of s)) ≡ k → text (front s) ≡ take (length (text (front s))) (drop 3 s)
    go true h =
        shown (content s) (text-front s (whole s) (composite (tag_of s)) (tag_of s) refl refl refl h (content s) refl)
        (text-shown s (whole s) (composite (tag_of s)) (tag_of s) refl refl refl h (content s) refl)
    go false h =
        shown [] (no_text s (whole s) (composite (tag_of s)) (tag_of s) refl refl refl h)
        (no-text-shown s (whole s) (composite (tag_of s)) (tag_of s) refl refl refl h)
