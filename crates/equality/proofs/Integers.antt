-- `eq` of two iterators over bytes answers what `same_bytes` says of the texts that they give.
use Rattle.std.proofs.Common.{ℕ, ◌≡◌, Bool, true, false, List, [], ◌∷◌, Option, Some, None, eqb}
use Rattle.std.specs.Option.{MatchOption, IfSome}
use Rattle.std.specs.List.{AllZip}
use Rattle.std.specs.Iterator.{AlwaysYields, YieldsThen, ComparesItemsByEq}
use Rattle.std.proofs.lemmas.Iterator.{YieldsList}
use Rattle.laws.specs.Texts.{same_bytes}

module _ {S T A : Type 0} (steps : S → Option A → S → Type 0) (others : T → Option A → T → Type 0) (v : A → ℕ) (same : A → A → Bool)
    (agree : (x y : A) → same x y ≡ eqb (v x) (v y)) (r : Bool) where
  abbrev Last : Option A → Option A → Type 0
  Last o p = MatchOption o (MatchOption p (r ≡ true) (λ _. r ≡ false)) (λ x. (r ≡ false) × IfSome p (λ y. same x y ≡ false))

  -- the items where the two stopped
  at-last : (o p : Option A) (xs ys : List ℕ) (s u : S) (t w : T) → AlwaysYields steps v s xs → AlwaysYields others v t ys → steps s o u → others t p w →
      Last o p → r ≡ same_bytes xs ys
  unfolding same_bytes
  at-last None p (x ∷ xs) ys s u t w e f a b h = absurd (e.0 u a)
  at-last (Some x) p [] ys s u t w e f a b h = absurd (e x u a)
  at-last o None xs (y ∷ ys) s u t w e f a b h = absurd (f.0 w b)
  at-last o (Some y) xs [] s u t w e f a b h = absurd (f y w b)
  at-last None None [] [] s u t w e f a b h = h
  at-last None (Some y) [] (z ∷ ys) s u t w e f a b h = h
  at-last (Some x) None (z ∷ xs) [] s u t w e f a b h = h.0
  at-last (Some x) (Some y) (k ∷ xs) (m ∷ ys) s u t w e f a b h =
      rw (h.0, ← (e.1 x u a).0, ← (f.1 y w b).0, ← agree x y, h.1)

  -- the pairs before them, which are equal
  along : (cs bs : List A) (o p : Option A) (xs ys : List ℕ) (s u : S) (t w : T) → AlwaysYields steps v s xs → AlwaysYields others v t ys →
      YieldsThen steps s cs o u → YieldsThen others t bs p w → AllZip (λ x y. same x y ≡ true) cs bs → Last o p → r ≡ same_bytes xs ys
  unfolding same_bytes
  along [] [] o p xs ys s u t w e f a b z h = at-last o p xs ys s u t w e f (rw (a.1) a.2) (rw (b.1) b.2) h
  along [] (y ∷ bs) o p xs ys s u t w e f a b z h = absurd z
  along (x ∷ cs) [] o p xs ys s u t w e f a b z h = absurd z
  along (x ∷ cs) (y ∷ bs) o p [] ys s u t w e f a b z h = absurd (e x a.1.0 a.1.1)
  along (x ∷ cs) (y ∷ bs) o p (k ∷ xs) [] s u t w e f a b z h = absurd (f y b.1.0 b.1.1)
  along (x ∷ cs) (y ∷ bs) o p (k ∷ xs) (m ∷ ys) s u t w e f a b z h =
      let i = e.1 x a.1.0 a.1.1 in
      let j = f.1 y b.1.0 b.1.1 in
      rw (← i.0, ← j.0, ← agree x y, z.0) (along cs bs o p xs ys a.1.0 u b.1.0 w i.1 j.1 (a.0, a.1.2, a.2) (b.0, b.1.2, b.2) z.1 h)

pub same-items : {S T A : Type 0} {steps : S → Option A → S → Type 0} {others : T → Option A → T → Type 0} {v : A → ℕ} {s : S} {same : A → A → Bool} {xs ys : List ℕ}
    (t : T) (r : Bool) → ComparesItemsByEq steps (λ x y. y ≡ x) others s t same r →
    YieldsList steps v s xs → YieldsList others v t ys → ((x y : A) → same x y ≡ eqb (v x) (v y)) → r ≡ same_bytes xs ys
same-items {steps = steps} {others = others} {v = v} {s = s} {same = same} {xs = xs} {ys = ys} t r d e f agree =
    along steps others v same agree r d.1 d.2 d.3 d.4 xs ys s d.5 t d.6 e.runs f.runs d.8 (rw (← d.7) d.9) d.10 d.11
