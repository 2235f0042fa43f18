-- Laws of a part of a list, also where it is read past its end: in the form in which the readers ask them, and cut twice.
use Rattle.std.proofs.Common.{◌≡◌, refl, sym, ap, ◌∙◌, Bool, true, false, List, [], ◌∷◌, ◌++◌, ℕ, zero, suc, ◌+◌, ◌-◌, ◌≤◌, ◌<◌, arith, le_of_lt, add-one, leb-true, leb-false, leb, length}
use Rattle.std.proofs.Common.{get_or, take, drop, length-drop, drop_of_length-le, take_all, length-take-le, drop-cons, get_or-take, get_or-append-add}
use native.Mathlib.Nat.{sub-zero, zero-sub, suc-sub-suc}
use lib.ListN.{get_or-eq_default}
use lib.Seq.{take-nil, drop-length}

pub get_d_past : (l : List ℕ) (i : ℕ) → length l ≤ i → 0 ≡ get_or l i 0
get_d_past l i h = sym (get_or-eq_default l 0 h)

pub take_past : (l : List ℕ) (n : ℕ) → length l < n → l ≡ take n l
take_past l n h = sym (take_all n l (le_of_lt h))

pub take_count : (l : List ℕ) (n : ℕ) → n ≤ length l → n ≡ length (take n l)
take_count l n h = sym (length-take-le n l h)

pub drop_past : (l : List ℕ) (n : ℕ) → length l < n → [] ≡ drop n l
drop_past l n h = sym (drop_of_length-le l (le_of_lt h))

pub drop-rest : (l : List ℕ) (n : ℕ) → take (length l - n) (drop n l) ≡ drop n l
drop-rest l n = take_all (length l - n) (drop n l) (simp length-drop (omega arith))

pub ruleset slices = (get_d_past, take_past, take_count, drop_past, drop-rest)

-- a list that is gone through by an index
pub drop-step : (l : List ℕ) (i : ℕ) → i < length l → drop i l ≡ get_or l i 0 ∷ drop (i + 1) l
drop-step l i h = rw add-one (drop-cons l i 0 h)

-- the next number of the first n
pub step-within : (l : List ℕ) (n i : ℕ) → n ≤ length l → i < n → drop i (take n l) ≡ get_or l i 0 ∷ drop (i + 1) (take n l)
step-within l n i w h =
    let k : i < length (take n l) = omega (arith, length-take-le n l w) in
    drop-step (take n l) i k ∙ rw (get_or-take n l i 0 h)

pub drop-take : {A : Type 0} (m n : ℕ) (l : List A) → drop m (take n l) ≡ take (n - m) (drop m l)
drop-take zero n l = rw (sub-zero n)
drop-take (suc m) zero l = rw (zero-sub (suc m))
drop-take (suc m) (suc n) [] = rw take-nil
drop-take (suc m) (suc n) (x ∷ l) = rw (suc-sub-suc n m) (drop-take m n l)

-- the elements behind the first list
pub get_d-behind : {A : Type 0} (l m : List A) (n i : ℕ) (d : A) → length l ≡ n → n ≤ i → get_or (l ++ m) i d ≡ get_or m (i - n) d
get_d-behind l m n i d e h =
    let z : i ≡ length l + (i - n) = omega (arith, e) in
    ap (λ k. get_or (l ++ m) k d) z ∙ get_or-append-add l m (i - n) d

-- what is left of a list is what stands behind those that are missing
pub tail_of : (s t : List ℕ) (j : ℕ) → t ≡ drop j s → t ≡ drop (length s - length t) s
tail_of s t j e = go (leb j (length s)) refl
  where
    go : (k : Bool) → leb j (length s) ≡ k → t ≡ drop (length s - length t) s
    go true h =
        let l : length t ≡ length s - j = rw (e, length-drop j s) in
        let z : length s - length t ≡ j = omega (arith, leb-true j (length s) h) in
        e ∙ rw z
    go false h =
        let b : length s < j = leb-false j (length s) h in
        let n : t ≡ [] = e ∙ drop_of_length-le s {i = j} (omega arith) in
        let l : length t ≡ 0 = rw n in
        let z : length s - length t ≡ length s = omega arith in
        n ∙ sym (ap (λ k. drop k s) z ∙ drop-length s)
