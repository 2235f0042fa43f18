-- Numbers that are written into a table one after the other: what is written first and what is written then is written.
use Rattle.std.proofs.Common.{ℕ, zero, suc, ◌+◌, ◌≤◌, ◌<◌, ◌≡◌, refl, ap, ◌∙◌, List, [], ◌∷◌, ◌++◌, arith, add-zero, suc-add, add-suc, length, get_or, set, replicate, length-set}
use Rattle.std.proofs.Common.{get_or-set_same, get_or-set_other}
use lib.Seq.{sets, set_out}

pub sets-append : {X : Type 0} (ks js t : List X) (n : ℕ) → sets (sets t n ks) (n + length ks) js ≡ sets t n (ks ++ js)
sets-append [] js t n = rw add-zero
sets-append (k ∷ ks) js t n = rw (add-suc, ← suc-add) (sets-append ks js (set t n k) (suc n))

-- past the end nothing is written
pub sets-out : {X : Type 0} (ks t : List X) (n : ℕ) → length t ≤ n → sets t n ks ≡ t
sets-out [] t n h = refl
sets-out (k ∷ ks) t n h = rw (set_out t n k h) (sets-out ks t (suc n) (omega (arith, h)))

-- what stands in front stays
pub sets-before : (ks t : List ℕ) (n j : ℕ) → j < n → get_or (sets t n ks) j 0 ≡ get_or t j 0
sets-before [] t n j h = refl
sets-before (k ∷ ks) t n j h =
    sets-before ks (set t n k) (suc n) j (omega (arith, h)) ∙ get_or-set_other t n j k 0 (λ e. absurd (omega (arith, h, e)))

-- and each number stands at its place
pub sets-at : (ks t : List ℕ) (n i : ℕ) → n + i < length t → i < length ks → get_or (sets t n ks) (n + i) 0 ≡ get_or ks i 0
sets-at [] t n i h g = absurd (omega (arith, g))
sets-at (k ∷ ks) t n zero h g =
    let e : n + 0 ≡ n = omega arith in
    rw e (sets-before ks (set t n k) (suc n) n (omega arith) ∙ get_or-set_same t n k 0 (omega (arith, h)))
sets-at (k ∷ ks) t n (suc i) h g =
    let e : n + suc i ≡ suc n + i = omega arith in
    rw e (sets-at ks (set t n k) (suc n) i (rw (length-set t n k) (omega (arith, h))) (omega (arith, g)))

-- a number of the table is the one that was written, or it was there
pub written-or-kept : (P : ℕ → Type 0) (l : List ℕ) (i n j : ℕ) → P (get_or l j 0) → (j ≡ i → P n) → P (get_or (set l i n) j 0)
written-or-kept P [] i n j p q = p
written-or-kept P (x ∷ l) zero n zero p q = q refl
written-or-kept P (x ∷ l) zero n (suc j) p q = p
written-or-kept P (x ∷ l) (suc i) n zero p q = p
written-or-kept P (x ∷ l) (suc i) n (suc j) p q = written-or-kept P l i n j p (λ e. q (ap suc e))

pub zeros : (n i : ℕ) → get_or {A = ℕ} (replicate n 0) i 0 ≡ 0
zeros zero i = refl
zeros (suc n) zero = refl
zeros (suc n) (suc i) = zeros n i
