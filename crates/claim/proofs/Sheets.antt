-- The bytes of the covers say each cover's kind and index: three bytes a cover, one after the other.
use Rattle.std.proofs.Common.{ℕ, zero, suc, ◌+◌, ◌*◌, ◌<◌, arith, ◌≡◌, refl, List, [], ◌∷◌, ◌++◌, length, get_or}
use Rattle.matching.specs.Matching.{Cover, Source, Backing, debit, parameter, equal_cover}
use Rattle.matching.specs.Matching.Cover.{equal_debit, equal_parameter}
use Rattle.claim.specs.Verdict.{kind, index, sheet}
use Rattle.claim.specs.Claim.{kind_at, index_at, equal_kind}

-- the sheet of bytes says each cover's kind and index
pub kind-at : (cs : List Cover) (rest : List ℕ) (i : ℕ) (d : Cover) → i < length cs → kind_at (sheet cs ++ rest) i ≡ kind (get_or cs i d)
unfolding sheet
kind-at [] rest i d h = omega arith
kind-at (c ∷ cs) rest zero d h = refl
kind-at (c ∷ cs) rest (suc i) d h =
    let e : 3 * suc i ≡ suc (suc (suc (3 * i))) = omega arith in
    rw e (kind-at cs rest i d (omega arith))

pub index-at : (cs : List Cover) (rest : List ℕ) (i : ℕ) (d : Cover) → i < length cs → index_at (sheet cs ++ rest) i ≡ index (get_or cs i d)
unfolding sheet
index-at [] rest i d h = omega arith
index-at (c ∷ cs) rest zero d h = omega arith
index-at (c ∷ cs) rest (suc i) d h =
    let e : 3 * suc i + 1 ≡ suc (suc (suc (3 * i + 1))) = omega arith in
    let f : 3 * suc i + 2 ≡ suc (suc (suc (3 * i + 2))) = omega arith in
    rw (e, f) (index-at cs rest i d (omega arith))

-- an equal backing's cover has kind 1 or 2, and the backing's index
pub equal-kind : (b : Backing) → kind (equal_cover b) ≡ equal_kind b.source
unfolding kind
equal-kind b = go b.source
  where
    go : (x : Source) → kind (elim x [ debit ↦ equal_debit b.index | parameter ↦ equal_parameter b.index ]) ≡ equal_kind x
    go debit = refl
    go parameter = refl

pub equal-index : (b : Backing) → index (equal_cover b) ≡ b.index
unfolding index
equal-index b = go b.source
  where
    go : (x : Source) → index (elim x [ debit ↦ equal_debit b.index | parameter ↦ equal_parameter b.index ]) ≡ b.index
    go debit = refl
    go parameter = refl
