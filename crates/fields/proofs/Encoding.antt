-- The tree's bytes are the file's bytes again: nothing is lost in reading.
use Rattle.std.proofs.Common.{ℕ, ◌+◌, ◌*◌, ◌/◌, ◌%◌, ◌≤◌, ◌<◌, ◌≡◌, refl, sym, ◌∙◌, Bool, true, false, cond, List, [], ◌∷◌, append-nil, arith, zero-add, add-zero, leb-true, leb-false, leb}
use Rattle.std.proofs.Common.{length, get_or, take, drop, length-take, take-append-drop, get_or-take, get_or-drop, drop-drop, drop-cons}
use lib.ListN.{get_or-eq_default}
use Rattle.tags.specs.Tag.{composite}
use Rattle.fields.specs.Field.{fields, tag_of, length_of, whole, content, after, front, sizes, encode, encodes}
use Rattle.fields.specs.Field.Field.{field}
use Rattle.fields.specs.Field.Fields.{end}
use Rattle.fields.proofs.Reading.{fields-next, fields-end, front-whole, by-fields}
use Rattle.fields.proofs.Places.{tree-size, content-length}

-- s holds bytes
abbrev pub Bytes : List ℕ → Type 0
Bytes s = (i : ℕ) → get_or s i 0 < 256

pub bytes_drop : (n : ℕ) (s : List ℕ) → Bytes s → Bytes (drop n s)
bytes_drop n s b i = rw get_or-drop (b (n + i))

pub bytes_take : (n : ℕ) (s : List ℕ) → Bytes s → Bytes (take n s)
bytes_take n s b i = go (leb n i) refl
  where
    go : (k : Bool) → leb n i ≡ k → get_or (take n s) i 0 < 256
    go true h =
        let l = leb-true n i h in
        let p : length (take n s) ≤ i = omega (arith, length-take n s) in
        rw (get_or-eq_default (take n s) 0 p) (omega arith)
    go false h = rw (get_or-take n s i 0 (leb-false n i h)) (b i)

-- the two bytes of a length
high : (a b : ℕ) → b < 256 → (a * 256 + b) / 256 ≡ a
high a b h = omega arith

low : (a b : ℕ) → b < 256 → (a * 256 + b) % 256 ≡ b
low a b h = omega arith

-- a head and what is behind it
head-split : (s : List ℕ) → 3 ≤ length s → s ≡ get_or s 0 0 ∷ get_or s 1 0 ∷ get_or s 2 0 ∷ drop 3 s
head-split s h = drop-cons s 0 0 (omega arith) ∙ rw (drop-cons s 1 0 (omega arith), drop-cons s 2 0 (omega arith))

module _ (s : List ℕ) (w : whole s ≡ true) (b : Bytes s) (c : encodes (fields (content s)) ≡ content s) where
  stated : sizes (fields (content s)) ≡ length_of s
  stated = tree-size (content s) ∙ content-length s w

  front_bytes : encode (front s) ≡ get_or s 0 0 ∷ get_or s 1 0 ∷ get_or s 2 0 ∷ content s
  unfolding encode encodes sizes
  front_bytes = rw (front-whole s w) (go (composite (tag_of s)))
    where
      go : (k : Bool) →
          encode (cond k (field (tag_of s) [] (fields (content s))) (field (tag_of s) (content s) (end [])))
          ≡ get_or s 0 0 ∷ get_or s 1 0 ∷ get_or s 2 0 ∷ content s
      go true = rw (stated, zero-add, high (get_or s 1 0) (get_or s 2 0) (b 2), low (get_or s 1 0) (get_or s 2 0) (b 2), c)
      go false = rw (content-length s w, add-zero, high (get_or s 1 0) (get_or s 2 0) (b 2), low (get_or s 1 0) (get_or s 2 0) (b 2), append-nil)

  all-bytes : encodes (fields (after s)) ≡ after s → encodes (fields s) ≡ s
  unfolding encodes
  all-bytes a =
      let l : 3 ≤ length s = omega (arith, leb-true (3 + length_of s) (length s) w) in
      rw (fields-next s w, front_bytes, a, ← drop-drop (length_of s) 3 s, take-append-drop (length_of s) (drop 3 s)) (sym (head-split s l))

-- encode after read is the identity
pub encodes-fields : (s : List ℕ) → Bytes s → encodes (fields s) ≡ s
unfolding encodes
encodes-fields =
    by-fields (λ s. Bytes s → encodes (fields s) ≡ s) (λ s w b. rw (fields-end s w))
    (λ s w c a b. all-bytes s w b (c (bytes_take (length_of s) (drop 3 s) (bytes_drop 3 s b))) (a (bytes_drop (3 + length_of s) s b)))
