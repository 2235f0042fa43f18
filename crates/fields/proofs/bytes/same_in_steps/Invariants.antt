-- Equal up to i, so what is left decides.
use Rattle.std.proofs.Common.{ℕ, ◌+◌, ◌-◌, ◌<◌, ◌≤◌, ◌≡◌, refl, sym, ◌∙◌, false, List, arith, length, length-drop, drop, drop-drop}
use Rattle.std.specs.Int.{w32, w64}
use Rattle.std.proofs.lemmas.Nat.{le_bytes_4, le_bytes_8}
use Rattle.laws.specs.Texts.{same_bytes}
use Rattle.fields.specs.Number.{front_quad, front_word}
use Rattle.fields.proofs.Encoding.{Bytes, bytes_drop}
use Rattle.fields.proofs.Words.{front-differs, front-same}
use Rattle.fields.proofs.bytes.same_in_steps.Given as goal

-- a and b agree on their first i bytes
pub record Agree (a b : List ℕ) (i : ℕ) : Type 0 where
  pub within : i ≤ length a
  pub lengths : length a ≡ length b
  pub left : same_bytes a b ≡ same_bytes (drop i a) (drop i b)

pub agree-four : (a b : List ℕ) → Bytes a → Bytes b → 3 < length a → length a ≡ length b →
    (x y : ℕ) → x ≡ front_quad a → y ≡ front_quad b → x ≡ y → Agree a b 4
agree-four a b r s l e x y f g h = record { within = l; lengths = e; left = front-same w32 4 le_bytes_4 a b r s l e x y f g h }

module _ (a b : List ℕ) (i : ℕ) (v : Agree a b i) (x y : ℕ) (f : x ≡ front_word (drop i a)) (g : y ≡ front_word (drop i b)) where
  pub differ : (x ≡ y → ⊥) → false ≡ same_bytes a b
  differ n = front-differs w64 8 (drop i a) (drop i b) x y f g n ∙ sym v.left

  pub agree-eight : Bytes a → Bytes b → 8 ≤ length a - i → x ≡ y → Agree a b (i + 8)
  agree-eight r s l h =
      let m : 8 ≤ length (drop i a) = omega (arith, length-drop i a, l) in
      let e : length (drop i a) ≡ length (drop i b) = rw (length-drop i a, length-drop i b, v.lengths) refl in
      let t = front-same w64 8 le_bytes_8 (drop i a) (drop i b) (bytes_drop i a r) (bytes_drop i b s) m e x y f g h in
      record { within = omega (arith, v.within, l); lengths = v.lengths; left = v.left ∙ t ∙ rw (drop-drop 8 i a, drop-drop 8 i b) refl }

abbrev pub invariant-loop-i : goal.invariant-loop-i
invariant-loop-i l = Agree l.a l.b l.i

abbrev pub decreases-loop-i : goal.decreases-loop-i
decreases-loop-i l = length l.a - l.i
