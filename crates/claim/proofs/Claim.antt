-- Demand 3, proved: accepted, the pass gave each payout its cover (Passing), which backs it (Backs), names what no other names
-- (Apart), and is the j-th of its amount where all have equal backings (Exact); and the bytes say kind and index (Sheets).
use Rattle.std.proofs.Common.{ℕ, ◌*◌, ◌<◌, arith, ◌≡◌, refl, ap, ◌∙◌, true, List, length, get_or, drop}
use borrow.Author.Tests.{not-true}
use Rattle.fields.specs.Field.{Field, Fields, fields}
use Rattle.walking.specs.Walking.{payouts}
use Rattle.tokens.specs.Tokens.{differ}
use Rattle.guards.specs.Payouts.{payout_token}
use Rattle.matching.specs.Matching.{Cover, backings, equal_cover, start}
use Rattle.matching.specs.Matching.Cover.{reserve}
use Rattle.claim.specs.Verdict.{Verdict, refused, rejected, accepted, matching, entry_at, entry_verdict, verdict, kind, index, written}
use Rattle.claim.specs.Verdict.{outcome, first_of, second_of}
use Rattle.claim.specs.Claim.{kind_at, index_at, named_by, not_known_to_differ, backs, Accepted, EachPayout, EachEqualsSome, earlier, jth, HasJth, NamesJth, payout_at, Backed, Demand3, Claim}
use Rattle.claim.proofs.Passing.{Passed, a-pass, passed-count}
use Rattle.claim.proofs.Sheets.{kind-at, index-at, equal-kind, equal-index}
use Rattle.claim.proofs.Backs.{passed-backs}
use Rattle.claim.proofs.Apart.{apart-covers}
use Rattle.claim.proofs.Exact.{AllMet, Has, passed-jth, jth-passes}

-- the answer is 0 where the verdict has covers, and not otherwise
covers_of : (v : Verdict) → Accepted (outcome v) → (cs : List Cover) × (v ≡ accepted cs)
unfolding outcome
covers_of (accepted cs) e = (cs, refl)
covers_of (rejected n r) e = absurd (omega (arith, e))
covers_of (refused n p) e = absurd (omega (arith, e))

module _ (model : Fields) (entry : Field) (lent : List ℕ) where
  -- the entry is accepted with these covers
  abbrev Matched : List Cover → Type 0
  Matched cs = matching model entry ≡ accepted cs

  -- what the lent covers hold afterwards
  abbrev left : List ℕ
  left = written (matching model entry) lent

  -- each payout got its cover, and the bytes say its kind and index
  module _ (cs : List Cover) (e : Matched cs) where
    passed : Passed model entry (start model entry) (payouts entry) cs
    unfolding matching
    passed = a-pass model entry (start model entry) 0 (payouts entry) cs e

    counts : length cs ≡ length (payouts entry)
    counts = passed-count model entry (start model entry) (payouts entry) cs passed

    module _ (i : ℕ) (h : i < length (payouts entry)) where
      kind-left : kind_at left i ≡ kind (get_or cs i (reserve 0))
      unfolding written
      kind-left = rw e (kind-at cs (drop (3 * length cs) lent) i (reserve 0) (omega (arith, counts)))

      index-left : index_at left i ≡ index (get_or cs i (reserve 0))
      unfolding written
      index-left = rw e (index-at cs (drop (3 * length cs) lent) i (reserve 0) (omega (arith, counts)))

      backs-left : backs model entry (payout_at model entry i) (kind_at left i) (index_at left i) ≡ true
      unfolding start
      backs-left = rw (kind-left, index-left) (passed-backs model entry (start model entry) (payouts entry) cs (λ f k. k) passed i (reserve 0) h)

    apart-left : (i j : ℕ) → i < length (payouts entry) → j < length (payouts entry) →
        named_by (kind_at left i) ≡ named_by (kind_at left j) → index_at left i ≡ index_at left j → i ≡ j
    apart-left i j h k e f =
        apart-covers model entry (payouts entry) cs passed i j (reserve 0) (omega (arith, counts)) (omega (arith, counts))
        (rw (kind-left i h, kind-left j k) at e) (rw (index-left i h, index-left j k) at f)

  -- where each payout's amount equals some backing's
  module _ (a : EachEqualsSome model entry) where
    all-met : AllMet (start model entry) (payouts entry)
    unfolding EachEqualsSome EachPayout start backings
    all-met i h = rw (a i h)

    jth-left : (cs : List Cover) → Matched cs → (i : ℕ) → i < length (payouts entry) →
        (h : Has (backings model entry) (payouts entry) i) × (get_or cs i (reserve 0) ≡ equal_cover h.0)
    unfolding start
    jth-left cs e i h = passed-jth model entry (start model entry) (payouts entry) cs (passed cs e) all-met i (reserve 0) h

    -- the other way round: where each payout has its j-th, the pass comes to its end
    accepted-left : EachPayout model entry (HasJth model entry) → Accepted (outcome (matching model entry))
    unfolding HasJth jth earlier start backings matching EachPayout outcome not_known_to_differ
    accepted-left has =
        ap outcome (jth-passes model entry (start model entry) 0 (payouts entry) all-met
        (λ i h. let (b, j, k) = has i h in (b, j, not-true (differ b.token (payout_token (payout_at model entry i))) k))).1

    -- the j-th, as the claim says it
    has_left : (i : ℕ) → Has (backings model entry) (payouts entry) i → HasJth model entry i
    unfolding HasJth jth earlier backings not_known_to_differ
    has_left i (b, j, k) = (b, j, cc)

    covers-left : (cs : List Cover) → Matched cs → (i : ℕ) → i < length (payouts entry) → NamesJth model entry left i
    unfolding NamesJth jth earlier backings
    covers-left cs e i h =
        let ((b, j, k), c) = jth-left cs e i h in
        (b, j, kind-left cs e i h ∙ ap kind c ∙ equal-kind b, index-left cs e i h ∙ ap index c ∙ equal-index b)

  -- the covers, where the answer is 0
  accepted_so : Accepted (outcome (matching model entry)) → (cs : List Cover) × Matched cs
  accepted_so = covers_of (matching model entry)

  pub backed : let v = matching model entry in Backed model entry lent (outcome v) (first_of v) (second_of entry v) left
  unfolding first_of EachPayout
  backed = record {
    counted = λ e. let (cs, f) = accepted_so e in ap first_of f ∙ counts cs f;
    sound = λ e i h. let (cs, f) = accepted_so e in backs-left cs f i h;
    apart = λ e i h j k. let (cs, f) = accepted_so e in apart-left cs f i j h k;
    exact = λ a. (λ e i h. let (cs, f) = accepted_so e in has_left a i (jth-left a cs f i h).0, accepted-left a);
    exact_covers = λ a e i h. let (cs, f) = accepted_so e in covers-left a cs f i h;
    given_verdict = refl;
    given_first = refl;
    given_second = refl;
    given_covers = refl;
  }

  -- an answer with its numbers, and covers left, that are these
  pub backed-by : (v : Verdict) → matching model entry ≡ v → (answer first second : ℕ) (covers : List ℕ) → answer ≡ outcome v →
      first ≡ first_of v → second ≡ second_of entry v → covers ≡ written v lent → Backed model entry lent answer first second covers
  backed-by v f answer first second covers a b c d = rw (a, b, c, d, ← f) backed

-- for entry n of any file, and any covers lent
module _ (file lent : List ℕ) (n : ℕ) where
  abbrev told : Verdict
  told = verdict file n (length lent)

  abbrev this : Field
  this = (entry_at (fields file) n).this

  pub demand-3 : (answer first second : ℕ) (left : List ℕ) → answer ≡ outcome told → first ≡ first_of told → second ≡ second_of this told →
      left ≡ written told lent → Demand3 file n lent answer first second left
  unfolding Demand3 verdict entry_verdict
  demand-3 answer first second left a b c d f e =
      backed-by (fields file) this lent told (rw (verdict, f, entry_verdict, e)) answer first second left a b c d

pub claim : Claim
unfolding Claim
claim file lent n = demand-3 file lent n _ _ _ _ refl refl refl refl
