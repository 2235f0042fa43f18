-- Writing covers: three bytes for each.
use Rattle.std.proofs.Common.{ℕ, ◌+◌, ◌-◌, ◌*◌, ◌/◌, ◌%◌, ◌≤◌, ◌≡◌, sym, List, [], ◌∷◌, arith, length, take, drop, drop-drop, append_assoc}
use borrow.Rule.Slice.PartMut.{put_mid}
use lib.Seq.{sets, sets-eq}
use Rattle.matching.specs.Matching.{Cover}
use Rattle.claim.specs.Verdict.{kind, index}
use Rattle.verdict.specs.Sheet.{cover_bytes}

-- an index in two bytes
halves : (i : ℕ) → i % 65536 / 256 % 256 ≡ i / 256 % 256
halves i = omega arith

-- the part of the sheet that has three bytes of a cover for what it had
pub three-written : (t : List ℕ) (k : ℕ) → 3 * k + 3 ≤ length t → (cover : Cover) (a : ℕ) → a ≡ kind cover → (i : ℕ) → i ≡ index cover →
    (high low : ℕ) → high ≡ i % 65536 / 256 % 256 → low ≡ i % 65536 % 256 →
    put_mid (3 * k) (3 * k + 3 - 3 * k) t (a ∷ high ∷ low ∷ []) ≡ sets t (3 * k) (cover_bytes cover)
unfolding cover_bytes
three-written t k h cover a e i f high low u l =
    let n : 3 * k + 3 - 3 * k ≡ 3 = omega arith in
    let m : i % 65536 % 256 ≡ i % 256 = omega arith in
    rw (sets-eq (cover_bytes cover) t (3 * k) h, cover_bytes, e, u, l, halves i, m, f, n, drop-drop)
    (sym (append_assoc (take (3 * k) t) (kind cover ∷ index cover / 256 % 256 ∷ index cover % 256 ∷ []) (drop (3 * k + 3) t)))
