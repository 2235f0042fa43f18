-- Texts compare as the same exactly where they are one list: each byte is compared, and so are the ends.
use Rattle.std.proofs.Common.{ℕ, suc, ◌≡◌, refl, sym, ap, true, false, List, [], ◌∷◌, arith, eqb-true, eq-eqb, eqb, length}
use mathlib.Core.Bool.{and-false}
use Rattle.std.specs.Cmp.Lexicographic.{pointwise}
use Rattle.laws.specs.Texts.{same_bytes, known}
use Rattle.laws.proofs.Truths.{and_left, and_right}
use Rattle.laws.proofs.Numbers.{number-symmetric}

-- byte by byte: the first are equal numbers, and the rest is equal
pub bytes-equal : (x y : List ℕ) → same_bytes x y ≡ true → x ≡ y
unfolding same_bytes
bytes-equal [] [] e = refl
bytes-equal [] (b ∷ y) e = cc
bytes-equal (a ∷ x) [] e = cc
bytes-equal (a ∷ x) (b ∷ y) e =
    cc (eqb-true a b (and_left (eqb a b) (same_bytes x y) e), bytes-equal x y (and_right (eqb a b) (same_bytes x y) e))

-- every byte equals itself
pub bytes_same : (x : List ℕ) → same_bytes x x ≡ true
unfolding same_bytes
bytes_same [] = refl
bytes_same (a ∷ x) = rw (eq-eqb a a refl) (bytes_same x)

-- equal either way round, byte by byte
pub bytes-symmetric : (x y : List ℕ) → same_bytes x y ≡ same_bytes y x
unfolding same_bytes
bytes-symmetric [] [] = refl
bytes-symmetric [] (b ∷ y) = refl
bytes-symmetric (a ∷ x) [] = refl
bytes-symmetric (a ∷ x) (b ∷ y) = rw (number-symmetric a b, bytes-symmetric x y)

-- the first text is the second
pub bytes-transitive : (x y z : List ℕ) → same_bytes x y ≡ true → same_bytes y z ≡ true → same_bytes x z ≡ true
bytes-transitive x y z e f = rw (bytes-equal x y e) f

-- texts of different lengths differ somewhere
pub lengths_differ : (a b : List ℕ) → (length a ≡ length b → ⊥) → false ≡ same_bytes a b
unfolding same_bytes
lengths_differ [] [] n = absurd (n refl)
lengths_differ [] (y ∷ ys) n = refl
lengths_differ (x ∷ xs) [] n = refl
lengths_differ (x ∷ xs) (y ∷ ys) n = rw (← lengths_differ xs ys (λ e. n (ap suc e))) (sym (and-false (eqb x y)))

-- a text is known exactly if it has bytes, and one that is known is none that is not

pub unknown : (x : List ℕ) → length x ≡ 0 → known x ≡ false
unfolding known
unknown [] e = refl
unknown (y ∷ x) e = absurd (omega (arith, e))

pub is_known : (x : List ℕ) → (length x ≡ 0 → ⊥) → known x ≡ true
unfolding known
is_known [] n = absurd (n refl)
is_known (y ∷ x) n = refl

pub same-unknown : (x y : List ℕ) → known x ≡ true → known y ≡ false → same_bytes x y ≡ false
unfolding known same_bytes
same-unknown [] y p q = cc
same-unknown (a ∷ x) [] p q = refl
same-unknown (a ∷ x) (b ∷ y) p q = cc

-- the library's comparison of lists, element by element
pub same-pointwise : (a b : List ℕ) → pointwise eqb a b ≡ same_bytes a b
unfolding same_bytes
same-pointwise [] [] = refl
same-pointwise [] (y ∷ b) = refl
same-pointwise (x ∷ a) [] = refl
same-pointwise (x ∷ a) (y ∷ b) = rw (same-pointwise a b)
