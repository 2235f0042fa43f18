-- The number of the first bytes: that of a chunk, or 0. Where two texts have others they differ, and where they have the same one
-- and enough bytes, what is behind decides.
use Rattle.std.proofs.Common.{ℕ, zero, suc, ◌<◌, ◌≤◌, ◌≡◌, refl, sym, ap, ◌∙◌, Bool, true, false, List, [], ◌∷◌, arith, eq-eqb, le-leb, eqb, length, get_or, take, drop, length-take-le}
use borrow.Author.Tests.{lt-leb}
use mathlib.Core.Bool.{and-true}
use Rattle.std.specs.Array.{IsFirstChunk}
use Rattle.std.specs.Int.{Width, from_le_bytes, to_le_bytes}
use Rattle.laws.specs.Texts.{same_bytes}
use Rattle.laws.proofs.Texts.{bytes-equal}
use Rattle.fields.specs.Number.{front_number}
use Rattle.fields.proofs.Encoding.{Bytes, bytes_take}

pub word_there : (w : Width) (count : ℕ) (s y : List ℕ) → IsFirstChunk s y count → from_le_bytes w y ≡ front_number w count s
unfolding front_number
word_there w count s y c = rw (c.same, le-leb count (length s) c.enough) refl

pub word_none : (w : Width) (count : ℕ) (s : List ℕ) → length s < count → 0 ≡ front_number w count s
unfolding front_number
word_none w count s h = rw (lt-leb count (length s) h) refl

-- one text has one number
pub front-differs : (w : Width) (count : ℕ) (a b : List ℕ) (x y : ℕ) → x ≡ front_number w count a → y ≡ front_number w count b → (x ≡ y → ⊥) → false ≡ same_bytes a b
front-differs w count a b x y f g n = go (same_bytes a b) refl
  where
    go : (k : Bool) → same_bytes a b ≡ k → false ≡ k
    go true e = absurd (n (f ∙ ap (front_number w count) (bytes-equal a b e) ∙ sym g))
    go false e = refl

-- byte by byte
same-behind : (n : ℕ) (a b : List ℕ) → take n a ≡ take n b → same_bytes a b ≡ same_bytes (drop n a) (drop n b)
unfolding same_bytes
same-behind zero a b e = refl
same-behind (suc n) [] [] e = refl
same-behind (suc n) [] (y ∷ b) e = cc
same-behind (suc n) (x ∷ a) [] e = cc
same-behind (suc n) (x ∷ a) (y ∷ b) e =
    let f : x ≡ y = cc e in
    let r : take n a ≡ take n b = cc e in
    rw (eq-eqb x y f) (same-behind n a b r)

-- bytes are what is written of their number
pub front-same : (w : Width) (count : ℕ) → ((s : List ℕ) (n : ℕ) → length s ≡ count → Bytes s → n ≡ from_le_bytes w s → to_le_bytes w n ≡ s) →
    (a b : List ℕ) → Bytes a → Bytes b → count ≤ length a → length a ≡ length b →
    (x y : ℕ) → x ≡ front_number w count a → y ≡ front_number w count b → x ≡ y → same_bytes a b ≡ same_bytes (drop count a) (drop count b)
unfolding front_number
front-same w count written a b r s l e x y f g h =
    let m : count ≤ length b = omega (arith, l, e) in
    let q : from_le_bytes w (take count a) ≡ from_le_bytes w (take count b) = rw (le-leb count (length a) l, le-leb count (length b) m) at (sym f ∙ h ∙ g) in
    let t = written (take count a) (from_le_bytes w (take count a)) (length-take-le count a l) (bytes_take count a r) refl in
    let u = written (take count b) (from_le_bytes w (take count b)) (length-take-le count b m) (bytes_take count b s) refl in
    same-behind count a b (sym t ∙ ap (to_le_bytes w) q ∙ u)

-- of no byte, and of one or none
pub same-none : (a b : List ℕ) → length a ≡ length b → length a ≤ 0 → true ≡ same_bytes a b
unfolding same_bytes
same-none [] [] e l = refl
same-none [] (y ∷ b) e l = absurd (omega (arith, e))
same-none (x ∷ a) b e l = absurd (omega (arith, l))

pub same-single : (a b : List ℕ) → length a ≡ length b → length a ≤ 1 → eqb (get_or a 0 0) (get_or b 0 0) ≡ same_bytes a b
unfolding same_bytes
same-single [] [] e l = refl
same-single [] (y ∷ b) e l = absurd (omega (arith, e))
same-single (x ∷ a) [] e l = absurd (omega (arith, e))
same-single (x ∷ []) (y ∷ []) e l = sym (and-true (eqb x y))
same-single (x ∷ z ∷ a) (y ∷ b) e l = absurd (omega (arith, l))
same-single (x ∷ []) (y ∷ z ∷ b) e l = absurd (omega (arith, e))
