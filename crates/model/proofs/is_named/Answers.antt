-- The name of a field is what stands behind its own head and that of its first part.
use Rattle.std.proofs.Common.{ℕ, ◌+◌, ◌-◌, ◌≡◌, refl, sym, ◌∙◌, Bool, true, false, arith, List, length, take, drop, drop-drop}
use Rattle.laws.specs.Texts.{same_bytes}
use Rattle.laws.proofs.Lists.{Every}
use Rattle.laws.proofs.Texts.{bytes-equal, bytes_same}
use Rattle.fields.specs.Field.{Fields, end, next, front, nth, parts, placed, text}
use Rattle.fields.proofs.Inside.{Stands, parts-stand}
use Rattle.fields.proofs.Parts.{text-bytes}
use Rattle.model.specs.Model.{name_of}
use Rattle.model.proofs.is_named.Goals as goal

name-bytes : (s : List ℕ) → name_of (front s) ≡ take (length (name_of (front s))) (drop 6 s)
unfolding placed nth
name-bytes s = go (parts (front s)) (parts-stand s (record { place = 0; this = front s }) refl)
  where
    go : (fs : Fields) → Every (Stands s) (placed 3 fs) → text (nth 0 fs) ≡ take (length (text (nth 0 fs))) (drop 6 s)
    go (end r) e = refl
    go (next f fs) e = rw (← e.0, ← drop-drop 3 3 s) (text-bytes (drop 3 s))

-- the name is the beginning of what stands there
other-bytes : (s name x : List ℕ) → x ≡ take (6 + length name - 6) (drop 6 s) → (r : Bool) → r ≡ same_bytes name x → r ≡ false → false ≡ same_bytes name (name_of (front s))
other-bytes s name x f r g h = go (same_bytes name (name_of (front s))) refl
  where
    go : (k : Bool) → same_bytes name (name_of (front s)) ≡ k → false ≡ k
    go true m =
        let z : name ≡ name_of (front s) = bytes-equal name (name_of (front s)) m in
        let n : 6 + length name - 6 ≡ length name = omega arith in
        let w : x ≡ name = f ∙ rw n (rw z (sym (name-bytes s))) in
        sym h ∙ g ∙ rw w (bytes_same name)
    go false m = refl

pub returns-then-not-same_in_steps : goal.returns-then-not-same_in_steps
returns-then-not-same_in_steps c =
    other-bytes c.args.s.now c.args.name.now _ c.in-Some.ensures.lookup.0.2 c.same_in_steps.result c.same_in_steps.ensures c.if-not-same_in_steps.true
