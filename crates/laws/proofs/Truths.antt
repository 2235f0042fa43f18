-- Laws of truth values, each by its cases.
use Rattle.std.proofs.Common.{◌≡◌, refl, sym, Bool, true, false, cond, ◌&&◌, ◌||◌}
use mathlib.Core.Bool.{beq}

pub and_left : (a b : Bool) → a && b ≡ true → a ≡ true
and_left true b e = refl
and_left false b e = e

pub and_right : (a b : Bool) → a && b ≡ true → b ≡ true
and_right true b e = e
and_right false b e = cc

pub and_both : (a b : Bool) → a ≡ true → b ≡ true → a && b ≡ true
and_both a b e f = rw (e, f)

pub or_left : (a b : Bool) → a ≡ true → a || b ≡ true
or_left a b e = rw e

pub or_right : (a b : Bool) → b ≡ true → a || b ≡ true
or_right true b e = refl
or_right false b e = e

pub or-either : (a b : Bool) → (a ≡ false → b ≡ true) → a || b ≡ true
or-either true b f = refl
or-either false b f = f refl

pub or-none : (a b : Bool) → a || b ≡ false → a ≡ false
or-none true b e = e
or-none false b e = refl

-- what follows from each follows from either
pub either : {X : Type 0} (a b : Bool) → (a ≡ true → X) → (b ≡ true → X) → a || b ≡ true → X
either true b f g e = f refl
either false b f g e = g e

pub or_swap : (a b c : Bool) → a || (b || c) ≡ b || (a || c)
or_swap true true c = refl
or_swap true false c = refl
or_swap false b c = refl

pub or-move : (a b c : Bool) → (a || b) || c ≡ b || (a || c)
or-move true true c = refl
or-move true false c = refl
or-move false b c = refl

-- each implies the other, so they are the same
pub agree : (a b : Bool) → (a ≡ true → b ≡ true) → (b ≡ true → a ≡ true) → a ≡ b
agree true true f g = refl
agree true false f g = cc (f refl)
agree false true f g = cc (g refl)
agree false false f g = refl

-- what implies something false is false
pub refuted : (a b : Bool) → b ≡ false → (a ≡ true → b ≡ true) → a ≡ false
refuted true b e f = cc (f refl)
refuted false b e f = refl

pub same_truth : (a b : Bool) → beq a b ≡ true → a ≡ b
same_truth true true e = refl
same_truth false false e = refl
same_truth true false e = sym e
same_truth false true e = e

-- what holds of both holds of the one that is chosen
pub chosen : {A : Type 0} (P : A → Type 0) (k : Bool) {a b : A} → P a → P b → P (cond k a b)
chosen P true p q = p
chosen P false p q = q

pub either_way : {A : Type 0} (k : Bool) (a : A) → cond k a a ≡ a
either_way true a = refl
either_way false a = refl
