-- Sizes and places: the tree of s tells where each of its fields stands in s.
use Rattle.std.proofs.Common.{ℕ, zero, suc, ◌+◌, ◌-◌, ◌≤◌, ◌<◌, ◌≡◌, refl, ◌∙◌, Bool, true, false, cond, List, [], ◌∷◌, arith, leb-true, length, take, drop, eqb, eqb-true, sym, length-drop, length-take, drop-drop}
use lib.Seq.{drop-nil, drop-length}
use Rattle.laws.proofs.Lists.{no-elements}
use Rattle.tags.specs.Tag.{composite, between}
use Rattle.fields.specs.Field.{Field, Fields, fields, tag_of, length_of, whole, content, after, front, nth, tag, parts, size, sizes, place_of, row, fields_from}
use Rattle.fields.specs.Field.Field.{field}
use Rattle.fields.specs.Field.Fields.{end, next}
use Rattle.fields.proofs.Reading.{fields-next, fields-end, front-whole, after_none, by-fields}

-- The tree of s takes as many bytes as s

pub content-length : (s : List ℕ) → whole s ≡ true → length (content s) ≡ length_of s
content-length s w =
    let l : 3 + length_of s ≤ length s = leb-true _ _ w in
    simp (length-take, length-drop) (omega arith)

size-by : (s : List ℕ) → whole s ≡ true → sizes (fields (content s)) ≡ length (content s) → size (front s) ≡ 3 + length_of s
unfolding size sizes
size-by s w h = rw (front-whole s w) (go (composite (tag_of s)))
  where
    go : (k : Bool) →
        size (cond k (field (tag_of s) [] (fields (content s))) (field (tag_of s) (content s) (end []))) ≡ 3 + length_of s
    go true = omega (arith, h, content-length s w)
    go false = omega (arith, content-length s w)

pub tree-size : (s : List ℕ) → sizes (fields s) ≡ length s
unfolding sizes
tree-size =
    by-fields (λ s. sizes (fields s) ≡ length s) (λ s w. rw (fields-end s w))
    (λ s w c a. rw (fields-next s w) (omega (arith, a, size-by s w c, length-drop (3 + length_of s) s, leb-true (3 + length_of s) (length s) w)))

pub front-size : (s : List ℕ) → whole s ≡ true → size (front s) ≡ 3 + length_of s
front-size s w = size-by s w (tree-size (content s))

-- a field's parts stand inside it, behind its head
pub parts-inside : (f : Field) → 3 + sizes (parts f) ≤ size f
unfolding size
parts-inside (field t x ps) = omega arith

-- a field takes three bytes at least
pub size-least : (f : Field) → 3 ≤ size f
size-least f = omega (arith, parts-inside f)

pub row-few : (low high : ℕ) (fs : Fields) → length (fields_from low high fs) ≤ sizes fs
unfolding fields_from row sizes
row-few low high (end r) = omega arith
row-few low high (next f fs) = go (between low high (tag f)) (row-few low high fs)
  where
    go : (k : Bool) → length (fields_from low high fs) ≤ sizes fs →
        length (cond k (f ∷ fields_from low high fs) (fields_from low high fs)) ≤ size f + sizes fs
    go true h = omega (arith, size-least f)
    go false h = omega arith

-- The n-th field of s stands where the sizes of the fields before it say

pub nth_after : (n : ℕ) (s : List ℕ) → nth n (fields (after s)) ≡ nth (suc n) (fields s)
unfolding nth
nth_after n s = go (whole s) refl
  where
    go : (w : Bool) → whole s ≡ w → nth n (fields (after s)) ≡ nth (suc n) (fields s)
    go true w = rw (fields-next s w)
    go false w = rw (after_none s w, fields-end s w, fields-end [] refl)

pub drop-after : (n : ℕ) (s : List ℕ) → drop (place_of n (fields (after s))) (after s) ≡ drop (place_of (suc n) (fields s)) s
unfolding place_of
drop-after n s = go (whole s) refl
  where
    go : (w : Bool) → whole s ≡ w → drop (place_of n (fields (after s))) (after s) ≡ drop (place_of (suc n) (fields s)) s
    go true w = rw (fields-next s w, front-size s w, drop-drop)
    go false w = rw (after_none s w, fields-end s w, drop-length, drop-nil)

pub nth-place : (n : ℕ) (s : List ℕ) → front (drop (place_of n (fields s)) s) ≡ nth n (fields s)
unfolding place_of
nth-place zero s = refl
nth-place (suc n) s = rw (← drop-after n s) (nth-place n (after s)) ∙ nth_after n s

-- t is what is left of s behind its first i fields
pub record Passed (s : List ℕ) (n : ℕ) (t : List ℕ) (i : ℕ) : Type 0 where
  pub within : i ≤ n
  pub left : drop (place_of (n - i) (fields t)) t ≡ drop (place_of n (fields s)) s

pub passed_none : (s : List ℕ) (n : ℕ) → Passed s n s 0
passed_none s n = let e : n - 0 ≡ n = omega arith in record { within = omega arith; left = rw e }

module _ (s t : List ℕ) (n i : ℕ) (v : Passed s n t i) where
  pub passed-one : i < n → (u : List ℕ) → u ≡ after t → Passed s n u (i + 1)
  passed-one h u e =
      let f : n - i ≡ suc (n - (i + 1)) = omega arith in
      record { within = omega arith; left = rw (e, drop-after, ← f) v.left }

  pub passed-all : n ≤ i → t ≡ drop (place_of n (fields s)) s
  unfolding place_of
  passed-all h = let e : n - i ≡ 0 = omega arith in rw e at v.left

  pub passed-end : length t ≡ 0 → t ≡ drop (place_of n (fields s)) s
  passed-end h = let e = no-elements t h in e ∙ (rw (e, drop-nil) at v.left)

pub is-zero : (n : ℕ) (b : Bool) → b ≡ eqb n 0 → b ≡ true → n ≡ 0
is-zero n b e h = eqb-true n 0 (sym e ∙ h)

pub reads-nth : (s t : List ℕ) (n : ℕ) → t ≡ drop (place_of n (fields s)) s → front t ≡ nth n (fields s)
reads-nth s t n e = rw e (nth-place n s)

-- the parts of a field are shorter than what it stands in the front of, by its head at least
pub parts-shorter : (s : List ℕ) → whole s ≡ true → (x : List ℕ) → x ≡ take (sizes (parts (front s))) (drop 3 s) → length x + 3 ≤ length s
parts-shorter s w x f =
    let long : 3 + length_of s ≤ length s = leb-true _ _ w in
    rw (f, length-take, length-drop) (omega arith)
