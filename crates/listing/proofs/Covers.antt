-- The lines of an entry's covers by their bytes: kind and index are read back, and the lines are written one behind the other.
use Rattle.std.proofs.Common.{ℕ, zero, suc, ◌+◌, ◌*◌, ◌≤◌, ◌<◌, ◌≡◌, refl, sym, ap, ◌∙◌, List, [], ◌∷◌, ◌++◌, arith, add-one, length, get_or, take, length-take, take_all, take-suc}
use mathlib.Core.List.{flat_map}
use Rattle.laws.specs.Lists.{numbered}
use Rattle.matching.specs.Matching.{Cover}
use Rattle.matching.specs.Matching.Cover.{reserve}
use Rattle.claim.specs.Verdict.{sheet}
use Rattle.claim.proofs.Sheets.{kind-at, index-at}
use Rattle.output.specs.Writes.{Writes}
use Rattle.output.specs.declared.Output.{Output}
use Rattle.output.proofs.Buffer.{writes-none, writes_then}
use Rattle.contract.specs.Records.{below}
use Rattle.contract.proofs.Below.{each-then}
use Rattle.listing.specs.Decimal.{decimal}
use Rattle.listing.specs.Listing.{line, cover_line}
use Rattle.listing.specs.Coded.{cover_line_at}

-- one more at the end has the next number
numbered-then : {A : Type 0} (k : ℕ) (l : List A) (x : A) → numbered k (l ++ x ∷ []) ≡ numbered k l ++ (k + length l, x) ∷ []
unfolding numbered
numbered-then k [] x = let e : k + 0 ≡ k = omega arith in rw e
numbered-then k (y ∷ l) x = let e : k + suc (length l) ≡ suc k + length l = omega arith in rw (e, numbered-then (suc k) l x)

module _ (cs : List Cover) (rest : List ℕ) where
  abbrev covers : List ℕ
  covers = sheet cs ++ rest

  pub one-cover : (i : ℕ) → i < length cs → cover_line_at covers i ≡ cover_line (i, get_or cs i (reserve 0))
  unfolding cover_line_at cover_line
  one-cover i h = rw (kind-at cs rest i (reserve 0) h, index-at cs rest i (reserve 0) h)

  first-covers : (k : ℕ) → k ≤ length cs → flat_map (cover_line_at covers) (below k) ≡ flat_map cover_line (numbered 0 (take k cs))
  unfolding below numbered flat_map
  first-covers zero h = refl
  first-covers (suc k) h =
      let l : 0 + length (take k cs) ≡ k = rw length-take (omega (arith, h)) in
      let next : numbered 0 (take (suc k) cs) ≡ numbered 0 (take k cs) ++ (k, get_or cs k (reserve 0)) ∷ [] =
      ap (numbered 0) (take-suc cs k (reserve 0) h) ∙ numbered-then 0 (take k cs) (get_or cs k (reserve 0)) ∙ ap (λ j. numbered 0 (take k cs) ++ (j, get_or cs k (reserve 0)) ∷ []) l in
      each-then (cover_line_at covers) (below k) k
      ∙ rw (first-covers k (omega (arith, h)), one-cover k (omega (arith, h)))
      (sym (each-then cover_line (numbered 0 (take k cs)) (k, get_or cs k (reserve 0)))
      ∙ ap (flat_map cover_line) (sym next))

  pub all-covers : flat_map (cover_line_at covers) (below (length cs)) ≡ flat_map cover_line (numbered 0 cs)
  all-covers = first-covers (length cs) (omega arith) ∙ rw (take_all (length cs) cs (omega arith))

module _ (covers : List ℕ) (start : Output) where
  pub covers-none : Writes (flat_map (cover_line_at covers) (below 0)) start start
  unfolding below flat_map
  covers-none = writes-none start

  -- one cover more is written
  pub covers-on : (k : ℕ) (before : Output) → Writes (flat_map (cover_line_at covers) (below k)) start before →
      (after : Output) → Writes (cover_line_at covers k) before after → Writes (flat_map (cover_line_at covers) (below (k + 1))) start after
  unfolding below
  covers-on k before p after w =
      rw (add-one k, each-then (cover_line_at covers) (below k) k) (writes_then start (flat_map (cover_line_at covers) (below k)) (cover_line_at covers k) before after p w)

-- whose bytes are the three from there on
pub cover-read : (covers : List ℕ) (k high low kind index : ℕ) → kind ≡ get_or covers (3 * k) 0 → index ≡ high * 256 + low →
    high ≡ get_or covers (3 * k + 1) 0 → low ≡ get_or covers (3 * k + 2) 0 → (a b : Output) →
    Writes (line (0x70 ∷ []) (decimal k ∷ decimal kind ∷ decimal index ∷ [])) a b → Writes (cover_line_at covers k) a b
unfolding cover_line_at
cover-read covers k high low kind index e f g h a b w = rw (← g, ← h, ← f, ← e) w
