-- 65,536 bytes hold every listing: at most 64 entries with at most 64 payouts each, and the numbers are short.
use Rattle.std.proofs.Common.{ℕ, suc, ◌+◌, ◌*◌, ◌/◌, ◌≤◌, ◌<◌, ◌≡◌, refl, Bool, true, false, List, [], ◌∷◌, ◌++◌, arith, ltb-true, ltb-false, ltb, length, get_or, length-append}
use mathlib.Core.List.{flat_map}
use Rattle.laws.specs.Texts.{bytes}
use Rattle.laws.specs.Lists.{numbered}
use Rattle.fields.specs.Field.{Field, Fields, fields}
use Rattle.model.specs.Model.{entries}
use Rattle.questions.specs.Questions.{Asked, passes, fails, ask_file}
use Rattle.walking.specs.Walking.{payouts}
use Rattle.matching.specs.Matching.{Cover, start}
use Rattle.matching.specs.Matching.Cover.{equal_debit, equal_parameter, bounding_debit, bounding_parameter, reserve}
use Rattle.claim.specs.Verdict.{Verdict, refused, rejected, accepted, matching, entry_at, entry_verdict, spare, kind, index, sheet}
use Rattle.claim.proofs.Passing.{Passed, a-pass}
use Rattle.claim.proofs.Backs.{passed-backs}
use Rattle.claim.proofs.Fitting.{index-fits}
use Rattle.contract.proofs.Below.{each-short}
use Rattle.contract.proofs.Passed.{few-entries, accepted-passes, accepted-matched, accepted-count, accepted-few}
use Rattle.contract.proofs.Fine.{Fine, fine-file, most_in_two_bytes}
use Rattle.contract.proofs.Said.{Said, entry-said, spare-few}
use Rattle.listing.specs.Decimal.{decimal}
use Rattle.listing.specs.Listing.{line, refusal_line, accepted_line, rejected_line, cover_line, entry_lines, listing}
use Rattle.listing.specs.Coded.{cover_line_at}
use Rattle.listing.proofs.Decimal.{one-digit, more-digits}
use Rattle.listing.proofs.Covers.{one-cover, all-covers}
use Rattle.contract.specs.Records.{covers_enough}

-- Digits

more-few : (n k : ℕ) → length (decimal (n / 10)) ≤ k → length (decimal n) ≤ suc k
more-few n k h = go (ltb n 10) refl
  where
    go : (b : Bool) → ltb n 10 ≡ b → length (decimal n) ≤ suc k
    go true e = rw (one-digit n (ltb-true n 10 e)) (omega arith)
    go false e = rw (more-digits n (ltb-false n 10 e), length-append) (omega (arith, h))

one-few : (n : ℕ) → n < 10 → length (decimal n) ≤ 1
one-few n h = rw (one-digit n h) (omega arith)

two-few : (n : ℕ) → n < 100 → length (decimal n) ≤ 2
two-few n h = more-few n 1 (one-few (n / 10) (omega (arith, h)))

five-few : (n : ℕ) → n < 100000 → length (decimal n) ≤ 5
five-few n h =
    more-few n 4 (more-few (n / 10) 3 (more-few (n / 10 / 10) 2 (two-few (n / 10 / 10 / 10) (omega (arith, h)))))

-- Lines: the lengths of the words, and a byte behind each

abbrev lengths : List (List ℕ) → ℕ
lengths [] = 0
lengths (w ∷ ws) = length w + 1 + lengths ws

line-length : (ws : List (List ℕ)) (w : List ℕ) → length (line w ws) ≡ lengths (w ∷ ws)
line-length [] w = rw length-append (omega arith)
line-length (x ∷ ws) w = rw length-append (omega (arith, line-length ws x))

refusal-short : (k p : ℕ) → k < 100 → p ≤ most_in_two_bytes → length (refusal_line k p) ≤ 900
unfolding refusal_line
refusal-short k p g h = omega (arith, line-length (decimal k ∷ decimal p ∷ []) (bytes "r"), two-few k g, five-few p (omega (arith, h)))

rejected-short : (n p : ℕ) → n < 100 → p < 100 → length (rejected_line n p) ≤ 900
unfolding rejected_line
rejected-short n p g h = omega (arith, line-length (decimal n ∷ bytes "no" ∷ decimal p ∷ []) (bytes "e"), two-few n g, two-few p h)

accepted-short : (n k s : ℕ) → n < 100 → k < 100 → s < 100 → length (accepted_line n k s) ≤ 20
unfolding accepted_line
accepted-short n k s f g h =
    omega (arith, line-length (decimal n ∷ bytes "ok" ∷ decimal k ∷ decimal s ∷ []) (bytes "e"), two-few n f, two-few k g, two-few s h)

kind-few : (c : Cover) → kind c < 10
unfolding kind
kind-few (equal_debit i) = omega arith
kind-few (equal_parameter i) = omega arith
kind-few (bounding_debit i) = omega arith
kind-few (bounding_parameter i) = omega arith
kind-few (reserve i) = omega arith

cover-short : (i : ℕ) (c : Cover) → i < 100 → index c < 65536 → length (cover_line (i, c)) ≤ 13
unfolding cover_line
cover-short i c g h =
    omega (arith, line-length (decimal i ∷ decimal (kind c) ∷ decimal (index c) ∷ []) (bytes "p"), two-few i g, one-few (kind c) (kind-few c), five-few (index c) (omega (arith, h)))

-- The lines of an entry

module _ (file : List ℕ) (f : ask_file file ≡ passes) (n : ℕ) (h : n < length (entries (fields file))) where
  abbrev model : Fields
  model = fields file

  abbrev entry : Field
  entry = (entry_at model n).this

  few : n < 100
  few = omega (arith, h, few-entries file f)

  module _ (cs : List Cover) (e : entry_verdict model n covers_enough ≡ accepted cs) where
    index-few : (i : ℕ) → i < length cs → index (get_or cs i (reserve 0)) < 65536
    unfolding start matching
    index-few i g =
        let ask = accepted-passes model n covers_enough cs e in
        let p : Passed model entry (start model entry) (payouts entry) cs = a-pass model entry (start model entry) 0 (payouts entry) cs (accepted-matched model n covers_enough cs e) in
        index-fits file f n covers_enough ask _ _ _
        (passed-backs model entry (start model entry) (payouts entry) cs (λ b k. k) p i (reserve 0) (omega (arith, g, accepted-count model n covers_enough cs e)))

    covers-short : length (flat_map cover_line (numbered 0 cs)) ≤ length cs * 13
    covers-short =
        rw (← all-covers cs [])
        (each-short (cover_line_at (sheet cs ++ [])) 13 (length cs)
        (λ i g. rw (one-cover cs [] i g) (cover-short i (get_or cs i (reserve 0)) (omega (arith, g, accepted-few model n covers_enough cs e refl)) (index-few i g))))

    all_short : length (accepted_line n (length cs) (spare entry) ++ flat_map cover_line (numbered 0 cs)) ≤ 900
    all_short =
        let many : length cs ≤ 64 = accepted-few model n covers_enough cs e refl in
        let first : length (accepted_line n (length cs) (spare entry)) ≤ 20 =
        accepted-short n (length cs) (spare entry) few (omega (arith, many)) (omega (arith, spare-few model n cs e)) in
        rw length-append (omega (arith, covers-short, many, first))

  entry-short : length (entry_lines model n) ≤ 900
  unfolding entry_lines
  entry-short = go (entry_verdict model n covers_enough) refl (entry-said file f n h)
    where
      go : (v : Verdict) → entry_verdict model n covers_enough ≡ v → Said 64 v → length (entry_lines model n) ≤ 900
      go (refused k p) e s = rw (entry_lines, e) (refusal-short k p s.0 s.1)
      go (rejected p r) e s = rw (entry_lines, e) (rejected-short n p few (omega (arith, s)))
      go (accepted cs) e s = rw (entry_lines, e) (all_short cs e)

-- for every file
pub enough : (file : List ℕ) → length (listing file) ≤ 65536
unfolding listing
enough file = go (ask_file file) refl (fine-file file)
  where
    go : (a : Asked) → ask_file file ≡ a → Fine most_in_two_bytes a → length (listing file) ≤ 65536
    go (fails k p) e s = rw (listing, e) (omega (arith, refusal-short k p s.0 s.1))
    go passes e s =
        rw (listing, e)
        (omega (arith, few-entries file e, each-short (entry_lines (fields file)) 900 (length (entries (fields file))) (λ n h. entry-short file e n h)))
