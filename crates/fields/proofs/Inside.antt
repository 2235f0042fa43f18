-- A part of the file that starts anywhere reads as the field that stands there: fields inside a field's content are
-- the fields of the file at their places.
use Rattle.std.proofs.Common.{ℕ, ◌+◌, ◌-◌, ◌≤◌, min, ◌≡◌, refl, sym, ap, ◌∙◌, true, List, arith, leb-true, le-leb, length, take, drop, length-take, length-drop, take-append-drop}
use Rattle.std.proofs.Common.{get_or-take, drop-drop}
use lib.Seq.{take-append-le, drop-append-le}
use Rattle.laws.proofs.Lists.{Every}
use Rattle.laws.proofs.Slices.{drop-take}
use Rattle.fields.specs.Field.{Placed, fields, tag_of, length_of, whole, content, after, front, parts, size, sizes, placed, placed_parts}
use Rattle.fields.proofs.Reading.{fields-next, fields-end, front-whole, by-fields}
use Rattle.fields.proofs.Places.{front-size}
use Rattle.fields.proofs.Parts.{parts-bytes}

-- a field that is whole in the first n bytes of s is the same field in s
module _ (n : ℕ) (s : List ℕ) (w : whole (take n s) ≡ true) where
  fits : 3 + length_of (take n s) ≤ min n (length s)
  fits = rw (← length-take n s) (leb-true _ _ w)

  same-tag : tag_of (take n s) ≡ tag_of s
  same-tag = let h = fits in get_or-take n s 0 0 (omega arith)

  pub same_length : length_of (take n s) ≡ length_of s
  same_length = let h = fits in cc (get_or-take n s 1 0 (omega arith), get_or-take n s 2 0 (omega arith))

  same-content : content (take n s) ≡ content s
  same-content =
      let h = fits in
      ap (λ k. take k (drop 3 (take n s))) same_length
      ∙ sym (take-append-le (length_of s) (drop 3 (take n s)) (drop n s) (omega (arith, same_length, length-take n s, length-drop 3 (take n s))))
      ∙ ap (take (length_of s)) (sym (drop-append-le 3 (take n s) (drop n s) (omega (arith, length-take n s))))
      ∙ ap (λ l. take (length_of s) (drop 3 l)) (take-append-drop n s)

  pub whole-inside : whole s ≡ true
  whole-inside = let h = fits in le-leb (3 + length_of s) (length s) (omega (arith, same_length))

  pub front-inside : front (take n s) ≡ front s
  front-inside = rw (front-whole (take n s) w, same-tag, same-content) (sym (front-whole s whole-inside))

  -- and what is behind it is what is left of those n bytes
  pub after-inside : after (take n s) ≡ take (n - (3 + length_of s)) (after s)
  after-inside = rw same_length (drop-take (3 + length_of s) n s)

-- p is the field that the file has at its place
abbrev pub Stands : List ℕ → Placed → Type 0
Stands file p = front (drop p.place file) ≡ p.this

-- n bytes of the file from k on, read as fields
row_of : (file s : List ℕ) (k n : ℕ) → s ≡ take n (drop k file) → Every (Stands file) (placed k (fields s))
unfolding placed
row_of file = by-fields (λ s. (k n : ℕ) → s ≡ take n (drop k file) → Every (Stands file) (placed k (fields s)))
    (λ s w k n e. rw (fields-end s w) tt)
    (λ s w c a k n e.
    let v : whole (take n (drop k file)) ≡ true = rw (← e) w in
    let l : length_of (drop k file) ≡ length_of s = sym (same_length n (drop k file) v) ∙ ap (λ t. length_of t) (sym e) in
    let b : after s ≡ take (n - (3 + length_of s)) (drop (k + size (front s)) file) =
    ap (λ t. after t) e ∙ after-inside n (drop k file) v ∙ rw (l, front-size s w, drop-drop) in
    rw (fields-next s w) (sym (front-inside n (drop k file) v) ∙ ap (λ t. front t) (sym e), a (k + size (front s)) (n - (3 + length_of s)) b))

pub row-stands : (file : List ℕ) (k n : ℕ) → Every (Stands file) (placed k (fields (take n (drop k file))))
row-stands file k n = row_of file (take n (drop k file)) k n refl

-- the parts of a field that stands in the file stand there too
pub parts-stand : (file : List ℕ) (p : Placed) → Stands file p → Every (Stands file) (placed_parts p)
parts-stand file p e =
    rw (← e, parts-bytes (drop p.place file), drop-drop)
    (row-stands file (p.place + 3) (sizes (parts (front (drop p.place file)))))
