-- A record is read back as it was written, since its numbers fit in their two bytes; so the text of a file's records is its listing.
use Rattle.std.proofs.Common.{ℕ, zero, suc, ◌+◌, ◌*◌, ◌≤◌, ◌<◌, ◌≡◌, refl, sym, ap, ◌∙◌, List, [], ◌∷◌, ◌++◌, arith}
use Rattle.std.proofs.Common.{subst, append_assoc, append-nil, zero-add, length, drop, replicate, drop_at}
use mathlib.Core.List.{flat_map}
use lib.ListN.{length-replicate}
use lib.Seq.{sets-eq}
use Rattle.laws.specs.Lists.{numbered}
use Rattle.fields.specs.Field.{Field, fields, nothing}
use Rattle.model.specs.Model.{entries}
use Rattle.questions.specs.Questions.{Asked, passes, fails, ask_file}
use Rattle.claim.specs.Verdict.{Verdict, refused, rejected, accepted, entry_at, outcome, first_of, second_of, sheet, written, spare}
use Rattle.output.specs.Output.{Written}
use Rattle.output.specs.Writes.{Writes}
use Rattle.output.specs.declared.Output.{Output}
use Rattle.contract.specs.Records.{two_bytes, recorded, verdict_on, record_on, below}
use Rattle.contract.specs.Each.{record_count, each_record, EachRecorded, records_enough}
use Rattle.contract.specs.Reading.{size_of}
use Rattle.contract.specs.declared.records.Recorded.{Recorded}
use Rattle.contract.proofs.Enough.{Fitting, on-entry, entry-fits, file-fits, each-enough}
use Rattle.contract.proofs.Reading.{first-read, second-read, size-read}
use Rattle.listing.specs.Listing.{refusal_line, accepted_line, rejected_line, cover_line, entry_lines, listing}
use Rattle.listing.specs.Coded.{lines_of, text_of}
use Rattle.listing.proofs.Covers.{all-covers}

-- the lines of a verdict on an entry
abbrev verdict_lines : ℕ → Field → Verdict → List ℕ
verdict_lines n entry v =
    elim v [
      | refused number place ↦ refusal_line number place
      | rejected payout reason ↦ rejected_line n payout
      | accepted cs ↦ accepted_line n (length cs) (spare entry) ++ flat_map cover_line (numbered 0 cs)
    ]

module _ (n : ℕ) (entry : Field) (behind : List ℕ) where
  abbrev front : Verdict → List ℕ
  front v = recorded entry v ++ behind

  lines-back : (v : Verdict) → Fitting entry v → lines_of n (front v) ≡ verdict_lines n entry v
  unfolding lines_of recorded two_bytes outcome first_of second_of written
  lines-back (refused k p) f = rw (first-read entry behind (refused k p) f, second-read entry behind (refused k p) f)
  lines-back (rejected k r) f = rw (first-read entry behind (rejected k r) f)
  lines-back (accepted cs) f =
      rw (
        first-read entry behind (accepted cs) f,
        second-read entry behind (accepted cs) f,
        append_assoc (sheet cs) (drop (3 * length cs) []) behind,
        all-covers cs (drop (3 * length cs) [] ++ behind),
      )

  after-back : (v : Verdict) → Fitting entry v → drop (size_of (front v)) (front v) ≡ behind
  after-back v f = drop_at (recorded entry v) behind (size_of (front v)) (sym (size-read entry behind v f))

-- the numbers from n on
unfoldable counting : (n k : ℕ) → List ℕ
counting n zero = []
counting n (suc k) = n ∷ counting (suc n) k

counted : (k n : ℕ) → below n ++ counting n k ≡ below (n + k)
unfolding counting below
counted zero n = let e : n + 0 ≡ n = omega arith in rw e (append-nil (below n))
counted (suc k) n =
    let e : n + suc k ≡ suc n + k = omega arith in
    rw e (sym (append_assoc (below n) (n ∷ []) (counting (suc n) k)) ∙ counted k (suc n))

module _ (file : List ℕ) (p : ask_file file ≡ passes) (behind : List ℕ) where
  entry-text : (n : ℕ) → n < length (entries (fields file)) → (rest : List ℕ) → lines_of n (record_on file n ++ rest) ≡ entry_lines (fields file) n
  unfolding record_on entry_lines
  entry-text n h rest =
      lines-back n (entry_at (fields file) n).this rest (verdict_on file n) (entry-fits file p n h) ∙ ap (verdict_lines n (entry_at (fields file) n).this) (on-entry file p n)

  after_text : (n : ℕ) → n < length (entries (fields file)) → (rest : List ℕ) → drop (size_of (record_on file n ++ rest)) (record_on file n ++ rest) ≡ rest
  unfolding record_on
  after_text n h rest = after-back n (entry_at (fields file) n).this rest (verdict_on file n) (entry-fits file p n h)

  text-from : (k n : ℕ) → n + k ≤ length (entries (fields file)) →
      text_of k n (flat_map (record_on file) (counting n k) ++ behind) ≡ flat_map (entry_lines (fields file)) (counting n k)
  unfolding text_of counting flat_map
  text-from zero n h = refl
  text-from (suc k) n h =
      rw (
        append_assoc (record_on file n) (flat_map (record_on file) (counting (suc n) k)) behind,
        entry-text n (omega (arith, h)) (flat_map (record_on file) (counting (suc n) k) ++ behind),
        after_text n (omega (arith, h)) (flat_map (record_on file) (counting (suc n) k) ++ behind),
        text-from k (suc n) (omega (arith, h)),
      )

  all-text : text_of (length (entries (fields file))) 0 (flat_map (record_on file) (below (length (entries (fields file)))) ++ behind) ≡ listing file
  unfolding listing below
  all-text =
      let e : counting 0 (length (entries (fields file))) ≡ below (length (entries (fields file))) =
      counted (length (entries (fields file))) 0 ∙ rw zero-add in
      rw (listing, p, ← e) (text-from (length (entries (fields file))) 0 (omega arith))

module _ (file behind : List ℕ) where
  each-text : text_of (record_count file) 0 (each_record file ++ behind) ≡ listing file
  unfolding text_of record_count each_record listing
  each-text = go (ask_file file) refl
    where
      go : (a : Asked) → ask_file file ≡ a → text_of (record_count file) 0 (each_record file ++ behind) ≡ listing file
      go (fails k p) e = rw (record_count, each_record, listing, e, lines-back 0 nothing behind (refused k p) (file-fits file k p e), append-nil (refusal_line k p))
      go passes e = rw (record_count, each_record, e) (all-text file e behind)

-- from the records as they were written into a buffer for them
module _ (file records : List ℕ) (r : Recorded) (room : ℕ) (i : EachRecorded file (replicate room 0) records r) where
  -- where it has room for more, they are all there
  pub listing-written : (r.end ≡ room → ⊥) → (a b : Output) → Writes (text_of r.count 0 records) a b →
      (before u : List ℕ) → a.buffer.now ≡ before → a.written ≡ 0 → b.buffer.now ≡ u →
      Written (listing file) before 0 u b.written
  listing-written z a b w before u e f g =
      let long : length (replicate {A = ℕ} room 0) ≡ room = length-replicate {A = ℕ} room 0 in
      let fits : 0 + length (each_record file) ≤ length (replicate {A = ℕ} room 0) = omega (arith, long, z, i.bytes.count) in
      let all : records ≡ each_record file ++ drop (0 + length (each_record file)) (replicate room 0) = i.bytes.kept ∙ sets-eq (each_record file) (replicate room 0) 0 fits in
      let same : text_of r.count 0 records ≡ listing file = rw (i.many, all) (each-text file (drop (0 + length (each_record file)) (replicate room 0))) in
      subst (λ n. Written (listing file) before n u b.written) f (rw (← same, ← e, ← g) w.bytes)

  -- as it has with a byte more than every file's records take
  pub room-left : records_enough < room → r.end ≡ room → ⊥
  room-left h e = absurd (omega (arith, h, e, length-replicate {A = ℕ} room 0, i.bytes.count, each-enough file))
