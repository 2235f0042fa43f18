-- Writing into a buffer: what is written first and what is written then is written, and what has no room stays out.
use Rattle.std.proofs.Common.{ℕ, ◌+◌, ◌≤◌, ◌<◌, ◌≡◌, refl, sym, ap, ◌∙◌, Bool, true, false, List, [], ◌∷◌, ◌++◌, arith}
use Rattle.std.proofs.Common.{add-one, leb-true, leb-false, leb, length, get_or, take, drop}
use Rattle.std.proofs.Common.{length-append, length-take-le, take-append-drop, take_all, take_at, take-suc}
use lib.Seq.{sets, sets-eq, length-sets, take-append_seam}
use Rattle.laws.proofs.Tables.{sets-append, sets-out}
use Rattle.output.specs.Output.{Written}
use Rattle.output.specs.Writes.{Writes}
use Rattle.output.specs.declared.Output.{Output}

pub written_none : (t : List ℕ) (n : ℕ) → n ≤ length t → Written [] t n t n
written_none t n h = record { kept = refl; count = omega (arith, h) }

module _ (xs t : List ℕ) (n : ℕ) (u : List ℕ) (m : ℕ) (p : Written xs t n u m) where
  same-room : length u ≡ length t
  same-room = rw p.kept (length-sets t n xs)

  module _ (ys v : List ℕ) (r : ℕ) (q : Written ys u m v r) where
    room-or-not : (b : Bool) → leb (n + length xs) (length t) ≡ b → v ≡ sets t n (xs ++ ys)
    room-or-not true h =
        let e : m ≡ n + length xs = omega (arith, leb-true (n + length xs) (length t) h, p.count) in
        q.kept ∙ rw (p.kept, e) (sets-append xs ys t n)
    room-or-not false h =
        let g : length t < n + length xs = leb-false (n + length xs) (length t) h in
        q.kept ∙ sets-out ys u m (omega (arith, g, p.count, same-room)) ∙ p.kept
        ∙ sym (sets-out ys (sets t n xs) (n + length xs) (rw (length-sets t n xs) (omega (arith, g)))) ∙ sets-append xs ys t n

    then-kept : v ≡ sets t n (xs ++ ys)
    then-kept = room-or-not (leb (n + length xs) (length t)) refl

    pub written_then : Written (xs ++ ys) t n v r
    written_then = record { kept = then-kept; count = rw length-append (omega (arith, p.count, q.count, same-room)) }

-- what stands in front of the next one is as much of the bytes as there was room for
pub written-front : (xs t u : List ℕ) (r : ℕ) → Written xs t 0 u r → take r u ≡ take r xs
written-front xs t u r p = go (leb (length xs) (length t)) refl
  where
    go : (b : Bool) → leb (length xs) (length t) ≡ b → take r u ≡ take r xs
    go true h =
        let l : length xs ≤ length t = leb-true (length xs) (length t) h in
        let e : r ≡ length xs = omega (arith, p.count, l) in
        rw (p.kept, sets-eq xs t 0 (omega (arith, l)), e, take-append_seam, take_all (length xs) xs (omega arith))
    go false h =
        let l : length t < length xs = leb-false (length xs) (length t) h in
        let e : r ≡ length t = omega (arith, p.count, l) in
        let k : length (take r xs) ≡ r = length-take-le r xs (omega (arith, e, l)) in
        let part : u ≡ sets t 0 (take r xs) =
        p.kept ∙ ap (sets t 0) (sym (take-append-drop r xs)) ∙ sym (sets-append (take r xs) (drop r xs) t 0)
        ∙ sets-out (drop r xs) (sets t 0 (take r xs)) (0 + length (take r xs)) (rw (length-sets t 0 (take r xs)) (omega (arith, e, k))) in
        rw (part, sets-eq (take r xs) t 0 (omega (arith, k, e))) (take_at (take r xs) (drop (0 + length (take r xs)) t) r k)

-- The same of an output
module _ (a : Output) where
  pub writes-none : Writes [] a a
  writes-none = record { bytes = written_none a.buffer.now a.written a.within; same = refl }

  module _ (xs ys : List ℕ) (b c : Output) where
    pub writes_then : Writes xs a b → Writes ys b c → Writes (xs ++ ys) a c
    writes_then p q =
        record {
          bytes = written_then xs a.buffer.now a.written b.buffer.now b.written p.bytes ys c.buffer.now c.written q.bytes;
          same = q.same ∙ p.same;
        }

  -- a text, byte by byte
  module _ (text : List ℕ) (i : ℕ) (b : Output) (p : Writes (take i text) a b) where
    pub writes-on : i < length text → (x : ℕ) → x ≡ get_or text i 0 → (c : Output) → Writes (x ∷ []) b c → Writes (take (i + 1) text) a c
    writes-on h x e c q = rw (add-one i, take-suc text i 0 h, ← e) (writes_then (take i text) (x ∷ []) b c p q)

    pub writes-all : length text ≤ i → Writes text a b
    writes-all h = rw (take_all i text h) at p
