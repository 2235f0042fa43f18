-- Payout by payout: those before the k-th have their covers, and those that are left decide.
use Rattle.std.proofs.Common.{ℕ, suc, ◌+◌, ◌-◌, ◌*◌, ◌/◌, ◌%◌, ◌≤◌, ◌<◌, arith, ◌≡◌, refl, ap, ◌∙◌}
use Rattle.std.proofs.Common.{List, [], ◌∷◌, ◌++◌, append-nil, length, take, drop, replicate, length-append, length-take, Result, Ok, Err, None}
use Rattle.std.proofs.Common.{drop_of_length-le, take_at, drop-cons}
use lib.ListN.{length-replicate}
use lib.Seq.{sets, sets-eq, length-sets}
use Rattle.fields.specs.Field.{Field, Fields, fields, nothing}
use Rattle.walking.specs.Walking.{payouts}
use Rattle.entries.specs.Entered.{Entered, entry_of}
use Rattle.entries.specs.declared.entry.Entry.{Entry}
use Rattle.entries.proofs.Reading.{field-there}
use Rattle.backings.specs.Tables.{Admitted}
use Rattle.backings.specs.Marked.{all_free, uses}
use Rattle.matching.specs.Matching.{Cover, Reason, Marks, answer, start}
use Rattle.matching.specs.Matching.Answer.{cover, rejection}
use Rattle.matching.specs.Standing.{backings_of, Stands}
use Rattle.matching.specs.Prepared.{Ready, payout_at}
use Rattle.matching.specs.Coded.{cover_of, reason_of, answer_of, Answers, AnswersFor}
use Rattle.matching.specs.declared.answer.Cover.{Cover as CodedCover}
use Rattle.matching.specs.declared.answer.Reason.{Reason as CodedReason}
use Rattle.matching.specs.declared.answer.Pass.{Pass}
use Rattle.matching.specs.declared.payout.Payout.{Payout}
use Rattle.matching.proofs.Backed.{backings-many}
use Rattle.matching.proofs.Kept.{start-stands}
use Rattle.matching.proofs.Ways.{Step, a-step}
use Rattle.claim.specs.Verdict.{Verdict, rejected, accepted, with_cover, match_from, matching, backing_count, spare, kind, index, sheet, written}
use Rattle.claim.specs.Verdict.{first_of, second_of}
use Rattle.claim.proofs.Backs.{Within, step-backs, step-within}
use Rattle.claim.proofs.Fitting.{backs-below, few-states}
use Rattle.verdict.specs.Sheet.{cover_bytes}
use Rattle.verdict.specs.Coded.{numbers_of, numbers, matched_answer, matched_covers}
use Rattle.verdict.specs.declared.entry.Objection.{Objection}
use Rattle.verdict.specs.declared.entry.Objection.TheVariants.{Rejected}
use Rattle.std.specs.Result.{MatchResult, IsErrAnd}
use mathlib.Core.Bool.{false≢true}

-- covers in front of those of the later payouts
abbrev with_covers : List Cover → Verdict → Verdict
with_covers [] v = v
with_covers (c ∷ cs) v = with_cover c (with_covers cs v)

one_more : (cs : List Cover) (c : Cover) (v : Verdict) → with_covers cs (with_cover c v) ≡ with_covers (cs ++ c ∷ []) v
one_more [] c v = refl
one_more (d ∷ cs) c v = ap (with_cover d) (one_more cs c v)

still-rejected : (cs : List Cover) (n : ℕ) (r : Reason) → with_covers cs (rejected n r) ≡ rejected n r
still-rejected [] n r = refl
still-rejected (c ∷ cs) n r = rw (still-rejected cs n r)

all-covered : (cs ds : List Cover) → with_covers cs (accepted ds) ≡ accepted (cs ++ ds)
all-covered [] ds = refl
all-covered (c ∷ cs) ds = rw (all-covered cs ds)

sheet-append : (cs ds : List Cover) → sheet (cs ++ ds) ≡ sheet cs ++ sheet ds
unfolding sheet
sheet-append [] ds = refl
sheet-append (c ∷ cs) ds = rw (sheet-append cs ds)

pub sheet-long : (cs : List Cover) → length (sheet cs) ≡ 3 * length cs
unfolding sheet
sheet-long [] = refl
sheet-long (c ∷ cs) = rw (sheet-long cs) (omega arith)

-- an index below 65,536 is kept whole
bytes_of : (c : Cover) → index c < 65536 → cover_bytes c ≡ sheet (c ∷ [])
unfolding cover_bytes sheet
bytes_of c h = let e : index c / 256 % 256 ≡ index c / 256 = omega (arith, h) in rw e

-- three more bytes
written_on : (cs : List Cover) (c : Cover) (t u : List ℕ) (k : ℕ) → length cs ≡ k → take (3 * k) t ≡ sheet cs → 3 * k + 3 ≤ length t →
    u ≡ sets t (3 * k) (sheet (c ∷ [])) → take (3 * (k + 1)) u ≡ sheet (cs ++ c ∷ [])
unfolding sheet
written_on cs c t u k m e h f =
    let three : sheet (c ∷ []) ≡ kind c ∷ index c / 256 ∷ index c % 256 ∷ [] = refl in
    let g : u ≡ (take (3 * k) t ++ sheet (c ∷ [])) ++ drop (3 * k + 3) t = f ∙ sets-eq (sheet (c ∷ [])) t (3 * k) h in
    rw (g, e, ← sheet-append cs (c ∷ []))
    (take_at (sheet (cs ++ c ∷ [])) (drop (3 * k + 3) t) (3 * (k + 1)) (sheet-long (cs ++ c ∷ []) ∙ rw (length-append cs (c ∷ []), m)))

-- a rejection that is made an objection
pub objected : (Q : CodedReason → Objection → Type 0) (r : Result CodedCover CodedReason) (m : Result CodedCover Objection) →
    MatchResult r (λ c. m ≡ Ok c) (λ q. IsErrAnd m (Q q)) → (o : Objection) → m ≡ Err o → (q : CodedReason) × (r ≡ Err q) × Q q o
objected Q (Ok c) m h o e = absurd (false≢true cc)
objected Q (Err q) m h o e = (q, refl, rw e at h)

-- The pass so far

pub record Running (file : List ℕ) (en : Entry) (bytes : List ℕ) (pass : Pass) (k : ℕ) : Type 0 where
  pub state : Marks
  pub done : List Cover
  pub reached : k ≤ en.payouts
  pub entered : Entered file en
  pub admits : Admitted file en.place pass.admitted
  pub few : uses pass.marks ≤ k
  pub stands : Stands (backings_of file en.place) pass.marks state
  pub within : Within (fields file) (entry_of file en.place) state
  pub many : length done ≡ k
  pub wide : length bytes ≡ 192
  pub first : take (3 * k) bytes ≡ sheet done
  pub rest : matching (fields file) (entry_of file en.place)
      ≡ with_covers done (match_from (fields file) (entry_of file en.place) state k (drop k (payouts (entry_of file en.place))))

module _ (file : List ℕ) (en : Entry) where
  pub running_none : Entered file en → (pass : Pass) → pass.marks ≡ all_free → pass.admitted ≡ None → Running file en (replicate 192 0) pass 0
  unfolding start matching sheet all_free
  running_none d pass e f =
      let few : length (backings_of file en.place) ≤ 64 = omega (arith, backings-many file en d, d.few) in
      record {
        state = start (fields file) (entry_of file en.place);
        done = [];
        reached = omega arith;
        entered = d;
        admits = rw f tt;
        few = rw e (omega arith);
        stands = rw e (start-stands (fields file) (entry_of file en.place) few);
        within = λ f k. k;
        many = refl;
        wide = length-replicate {A = ℕ} 192 0;
        first = refl;
        rest = refl;
      }

  module _ (bytes : List ℕ) (pass : Pass) (k : ℕ) (v : Running file en bytes pass k) where
    abbrev d : Entered file en
    d = v.entered

    abbrev model : Fields
    model = fields file

    abbrev entry : Field
    entry = entry_of file en.place

    pub running-wide : length bytes ≡ 192
    running-wide = v.wide

    module _ (h : k < en.payouts) where
      -- what the answer needs
      pub running-ready : (p : Payout) → p.entry.now ≡ en → Ready file p pass
      running-ready p e = record { entered = rw e d; admits = rw e v.admits; room = omega (arith, v.few, h, d.limit) }

      -- there is room for the next three bytes
      pub running-next : 3 * k + 3 ≤ length bytes
      running-next = omega (arith, v.wide, h, d.limit)

      abbrev payout : Field
      payout = payout_at file en k

      left_over : drop k (payouts entry) ≡ payout ∷ drop (k + 1) (payouts entry)
      left_over =
          let step : k + 1 ≡ suc k = omega arith in
          rw (step, field-there file en.paid en.payouts (payouts entry) d.paid d.many k h)
          (drop-cons (payouts entry) k nothing (omega (arith, h, d.many)))

      module _ (r : Result CodedCover CodedReason) (next : Pass) (a : AnswersFor file en pass.marks k r next.marks) where
        answers : Answers model entry (backings_of file en.place) v.state payout r next.marks
        answers = a v.state v.stands

        -- a rejection is the verdict
        module _ (q : CodedReason) (g : r ≡ Err q) where
          running-rejected : matching model entry ≡ rejected k (reason_of q)
          unfolding match_from
          running-rejected =
              let same : answer model entry v.state payout ≡ rejection (reason_of q) = answers.same ∙ ap (λ x. answer_of x answers.after) g in
              v.rest ∙ rw (left_over, match_from, same) (still-rejected v.done k (reason_of q))

          pub rejected-told : numbers_of (Err (Rejected k q)) ≡ matched_answer file en.place
          unfolding numbers_of numbers first_of second_of
          rejected-told = rw running-rejected

          pub rejected-unwritten : (t : List ℕ) → t ≡ matched_covers file en.place t
          unfolding written
          rejected-unwritten t = rw running-rejected

        -- a cover is one more
        module _ (c : CodedCover) (g : r ≡ Ok c) where
          same : answer model entry v.state payout ≡ cover (cover_of c) answers.after
          same = answers.same ∙ ap (λ x. answer_of x answers.after) g

          step : Step model entry v.state payout (cover_of c) answers.after
          step = a-step model entry v.state answers.after payout (cover_of c) same

          index-small : index (cover_of c) < 65536
          unfolding backing_count
          index-small =
              omega (
                arith,
                backs-below model entry payout (kind (cover_of c)) (index (cover_of c)) (step-backs model entry v.state v.within payout (cover_of c) answers.after step),
                few-states file,
                d.small,
                d.counted,
                d.all,
                d.few,
              )

          rest-on : matching model entry ≡ with_covers (v.done ++ cover_of c ∷ []) (match_from model entry answers.after (k + 1) (drop (k + 1) (payouts entry)))
          unfolding match_from
          rest-on =
              let next : k + 1 ≡ suc k = omega arith in
              v.rest ∙ rw (left_over, match_from, same, next) (one_more v.done (cover_of c) (match_from model entry answers.after (suc k) (drop (suc k) (payouts entry))))

          pub running-on : uses next.marks ≤ uses pass.marks + 1 → Admitted file en.place next.admitted →
              (u : List ℕ) → u ≡ sets bytes (3 * k) (cover_bytes (cover_of c)) → Running file en u next (k + 1)
          running-on less admits u w =
              let three : u ≡ sets bytes (3 * k) (sheet (cover_of c ∷ [])) = w ∙ ap (λ l. sets bytes (3 * k) l) (bytes_of (cover_of c) index-small) in
              record {
                state = answers.after;
                done = v.done ++ cover_of c ∷ [];
                reached = omega (arith, h);
                entered = d;
                admits = admits;
                few = omega (arith, less, v.few);
                stands = answers.stands;
                within = step-within model entry v.state payout (cover_of c) answers.after v.within step;
                many = rw (length-append v.done (cover_of c ∷ [])) (omega (arith, v.many));
                wide = rw three (length-sets bytes (3 * k) (sheet (cover_of c ∷ [])) ∙ v.wide);
                first = written_on v.done (cover_of c) bytes u k v.many v.first (omega (arith, v.wide, h, d.limit)) three;
                rest = rest-on;
              }

    -- at the end each payout has its cover
    running-done : en.payouts ≤ k → matching model entry ≡ accepted v.done
    unfolding match_from
    running-done h =
        let none : drop k (payouts entry) ≡ [] = drop_of_length-le (payouts entry) {i = k} (omega (arith, h, d.many)) in
        v.rest ∙ rw (none, match_from) (all-covered v.done [] ∙ rw append-nil)

    module _ (h : en.payouts ≤ k) where
      pub done-told : (rest : ℕ) → rest ≡ en.total - en.payouts → numbers_of (Ok (record { payouts = en.payouts; spare = rest })) ≡ matched_answer file en.place
      unfolding numbers_of numbers first_of second_of spare backing_count
      done-told rest e =
          let i : rest ≡ spare entry = omega (arith, e, d.all, d.counted, d.many) in
          rw (running-done h, ← i) (ap (λ n. numbers_of (Ok (record { payouts = n; spare = rest }))) (omega (arith, h, v.reached, v.many)))

      pub done-written : (covers left part : List ℕ) → part ≡ take (3 * en.payouts) bytes → left ≡ part ++ drop (length part) covers → left ≡ matched_covers file en.place covers
      unfolding written
      done-written covers left part p e =
          let long : length part ≡ 3 * en.payouts = rw (p, length-take) (omega (arith, v.wide, d.limit)) in
          let c : en.payouts ≡ k = omega (arith, h, v.reached) in
          rw (running-done h, v.many, ← v.first, ← c, ← p, ← long) e

      pub done-long : 3 * en.payouts ≤ length bytes
      done-long = omega (arith, v.wide, d.limit)
