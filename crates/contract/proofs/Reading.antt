-- A record is read back as it was written, since its numbers fit in their two bytes; and the records before it are passed over,
-- also where the bytes are cut off: behind a record that is cut off nothing is left.
use Rattle.std.proofs.Common.{ℕ, zero, suc, ◌+◌, ◌-◌, ◌*◌, ◌≤◌, ◌<◌, ◌/◌, ◌%◌, ◌≡◌, refl, sym, ap, ◌∙◌, Bool, true, false, cond, List, [], ◌++◌}
use Rattle.std.proofs.Common.{append_assoc, append-nil, arith, leb-true, leb-false, leb, eqb, length, take, drop}
use Rattle.std.proofs.Common.{take_all, get_or-take, get_or-drop, drop-drop, drop_of_length-le, length-take, length-append}
use mathlib.Core.List.{flat_map}
use lib.Seq.{drop-nil, take-append_seam, take-append-add, drop-append_seam}
use Rattle.laws.proofs.Slices.{drop-take}
use Rattle.fields.specs.Field.{Field}
use Rattle.claim.specs.Verdict.{Verdict, refused, rejected, accepted, outcome, first_of, second_of, sheet, written}
use Rattle.verdict.proofs.Running.{sheet-long}
use Rattle.contract.specs.Records.{two_bytes, recorded, below}
use Rattle.contract.specs.Reading.{front_number, outcome_in, first_in, second_in, size_of, covers_in, Whole, records_from}
use Rattle.contract.proofs.Below.{each-then}
use Rattle.contract.proofs.Enough.{Fitting}

-- a number below 65,536 is read back from its two bytes
two-read : (k : ℕ) → k < 65536 → k / 256 % 256 * 256 + k % 256 ≡ k
two-read k h = omega (arith, h)

-- the record of a verdict on an entry, in front of some bytes
module _ (entry : Field) (behind : List ℕ) where
  abbrev front : Verdict → List ℕ
  front v = recorded entry v ++ behind

  pub outcome-read : (v : Verdict) → outcome_in (front v) ≡ outcome v
  unfolding recorded two_bytes
  outcome-read v = refl

  pub first-read : (v : Verdict) → Fitting entry v → first_in (front v) ≡ first_of v
  unfolding front_number recorded two_bytes
  first-read v f = two-read (first_of v) f.first_fits

  pub second-read : (v : Verdict) → Fitting entry v → second_in (front v) ≡ second_of entry v
  unfolding front_number recorded two_bytes
  second-read v f = two-read (second_of entry v) f.second_fits

  pub size-read : (v : Verdict) → Fitting entry v → size_of (front v) ≡ length (recorded entry v)
  unfolding size_of recorded two_bytes outcome first_of written
  size-read (refused k p) f = refl
  size-read (rejected k r) f = refl
  size-read (accepted cs) f = rw (first-read (accepted cs) f, drop-nil (3 * length cs), append-nil (sheet cs), sheet-long cs) (omega arith)

  taken : (v : Verdict) → Fitting entry v → take (size_of (front v)) (front v) ≡ recorded entry v
  taken v f = rw (size-read v f) (take-append_seam (recorded entry v) behind)

  pub covers-read : (v : Verdict) → Fitting entry v → covers_in (front v) ≡ written v []
  unfolding covers_in recorded two_bytes
  covers-read v f = rw (taken v f)

-- Bytes that are cut off

-- a record takes at least five bytes
size-least : (s : List ℕ) → 5 ≤ size_of s
unfolding size_of
size-least s = go (eqb (outcome_in s) 0)
  where
    go : (b : Bool) → 5 ≤ cond b (5 + 3 * first_in s) 5
    go true = omega arith
    go false = omega arith

-- and how many it takes is read off the first five
size-cut : (s : List ℕ) (k : ℕ) → 5 ≤ k → size_of (take k s) ≡ size_of s
unfolding size_of front_number
size-cut s k h =
    rw (
      get_or-take k s 0 0 (omega (arith, h)),
      get_or-drop 1 (take k s) 0 0,
      get_or-drop 1 (take k s) 1 0,
      get_or-take k s 1 0 (omega (arith, h)),
      get_or-take k s 2 0 (omega (arith, h)),
      get_or-drop 1 s 0 0,
      get_or-drop 1 s 1 0,
    )

-- the first k bytes of a record and what stands behind it
module _ (r behind : List ℕ) (same : size_of (r ++ behind) ≡ length r) (k : ℕ) where
  abbrev part : List ℕ
  part = take k (r ++ behind)

  -- it is passed over; if it is cut off, nothing is left
  passed-over : drop (size_of part) part ≡ drop (length r) part
  passed-over = go (leb 5 k) refl
    where
      go : (b : Bool) → leb 5 k ≡ b → drop (size_of part) part ≡ drop (length r) part
      go true h = rw (size-cut (r ++ behind) k (leb-true 5 k h), same)
      go false h =
          let few : k < 5 = leb-false 5 k h in
          drop_of_length-le part (rw length-take (omega (arith, few, size-least part)))
          ∙ sym (drop_of_length-le part (rw length-take (omega (arith, few, same, size-least (r ++ behind)))))

  -- one that is whole stands in front of some bytes
  whole-front : Whole part → part ≡ r ++ take (k - length r) behind
  unfolding Whole
  whole-front w = go (leb 5 k) refl
    where
      all : length r ≤ k → part ≡ r ++ take (k - length r) behind
      all h = let e : k ≡ length r + (k - length r) = omega (arith, h) in ap (λ j. take j (r ++ behind)) e ∙ take-append-add r behind (k - length r)

      go : (b : Bool) → leb 5 k ≡ b → part ≡ r ++ take (k - length r) behind
      go true h = all (omega (arith, size-cut (r ++ behind) k (leb-true 5 k h), same, w, length-take k (r ++ behind)))
      go false h = absurd (omega (arith, leb-false 5 k h, size-least part, w, length-take k (r ++ behind)))

-- Records one behind the other, f 0, f 1, .., of the numbers below a count

-- behind those before it each stands in front of the rest
abbrev Stands : (ℕ → List ℕ) → (count n : ℕ) → Type 0
Stands f count n = (behind : List ℕ) × (flat_map f (below count) ≡ flat_map f (below n) ++ (f n ++ behind))

stands : (f : ℕ → List ℕ) (count n : ℕ) → n < count → Stands f count n
unfolding below
stands f zero n h = absurd (omega (arith, h))
stands f (suc count) n h = go (stands f count n) (leb count n) refl
  where
    go : (n < count → Stands f count n) → (b : Bool) → leb count n ≡ b → Stands f (suc count) n
    go earlier true e =
        let last : n ≡ count = omega (arith, h, leb-true count n e) in
        ([], rw (each-then f (below count) count, last, append-nil (f count)))
    go earlier false e =
        let (behind, same) = earlier (leb-false count n e) in
        (behind ++ f count, rw (each-then f (below count) count, same, append_assoc, append_assoc (f n) behind (f count)))

module _ (f : ℕ → List ℕ) (count : ℕ) (read : (n : ℕ) → n < count → (behind : List ℕ) → size_of (f n ++ behind) ≡ length (f n)) (k : ℕ) where
  -- the first k bytes of them
  abbrev bytes : List ℕ
  bytes = take k (flat_map f (below count))

  abbrev before : ℕ → ℕ
  before n = length (flat_map f (below n))

  from-there : (n : ℕ) (behind : List ℕ) → flat_map f (below count) ≡ flat_map f (below n) ++ (f n ++ behind) →
      drop (before n) bytes ≡ take (k - before n) (f n ++ behind)
  from-there n behind e = drop-take (before n) k (flat_map f (below count)) ∙ rw (e, drop-append_seam)

  records-before : (n : ℕ) → n ≤ count → records_from bytes n ≡ drop (before n) bytes
  unfolding records_from below flat_map
  records-before zero h = refl
  records-before (suc n) h =
      let (behind, e) = stands f count n h in
      let there : drop (before n) bytes ≡ take (k - before n) (f n ++ behind) = from-there n behind e in
      let next : before (suc n) ≡ before n + length (f n) = ap length (each-then f (below n) n) ∙ length-append (flat_map f (below n)) (f n) in
      rw (records-before n (omega (arith, h)), there, passed-over (f n) behind (read n h behind) (k - before n), ← there, next)
      (drop-drop (length (f n)) (before n) bytes)

  pub record-whole : (n : ℕ) → n < count → Whole (records_from bytes n) → (behind : List ℕ) × (records_from bytes n ≡ f n ++ behind)
  record-whole n h w =
      let (behind, e) = stands f count n h in
      let there : records_from bytes n ≡ take (k - before n) (f n ++ behind) = records-before n (omega (arith, h)) ∙ from-there n behind e in
      (take (k - before n - length (f n)) behind, there ∙ whole-front (f n) behind (read n h behind) (k - before n) (rw there at w))

  -- where none is cut off, each is whole
  pub record-there : (n : ℕ) → n < count → length (flat_map f (below count)) ≤ k → Whole (records_from bytes n)
  unfolding Whole
  record-there n h room =
      let (behind, e) = stands f count n h in
      let there : records_from bytes n ≡ take (k - before n) (f n ++ behind) = records-before n (omega (arith, h)) ∙ from-there n behind e in
      let long : length (flat_map f (below count)) ≡ before n + length (f n ++ behind) =
      ap length e ∙ length-append (flat_map f (below n)) (f n ++ behind) in
      rw (there, take_all (k - before n) (f n ++ behind) (omega (arith, room, long)), read n h behind) (omega (arith, length-append (f n) behind))
