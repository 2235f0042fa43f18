-- What the verdict on an entry may say: a refusal has a small number and a place in the file, a rejection names one of 64 payouts,
-- and an accepted entry has at most 64 backings to spare.
use Rattle.std.proofs.Common.{ℕ, suc, ◌+◌, ◌≤◌, ◌<◌, ◌≡◌, refl, List, [], ◌∷◌, arith, length}
use Rattle.fields.specs.Field.{Field, Fields, fields}
use Rattle.model.specs.Model.{entries}
use Rattle.questions.specs.Questions.{Asked, passes, fails, ask_file}
use Rattle.walking.specs.Walking.{payouts}
use Rattle.matching.specs.Matching.{Cover, Marks, Answer, answer, start}
use Rattle.matching.specs.Matching.Answer.{cover, rejection}
use Rattle.claim.specs.Verdict.{Verdict, refused, rejected, accepted, with_cover, match_from, matching, entry_at, ask_entry, entry_verdict, spare}
use Rattle.claim.proofs.Fitting.{short-file}
use Rattle.contract.proofs.Passed.{passed-few, passed-room, accepted-passes}
use Rattle.contract.proofs.Fine.{Fine, fine-entry, most_in_two_bytes}
use Rattle.contract.specs.Records.{covers_enough}

-- a refusal is short; a rejection names a payout below b
abbrev pub Said : ℕ → Verdict → Type 0
Said b (refused k p) = (k < 100) × (p ≤ most_in_two_bytes)
Said b (rejected n r) = n < b
Said b (accepted cs) = Unit {0}

said-with : (b : ℕ) (c : Cover) (v : Verdict) → Said b v → Said b (with_cover c v)
said-with b c (refused k p) s = s
said-with b c (rejected n r) s = s
said-with b c (accepted cs) s = tt

module _ (model : Fields) (entry : Field) where
  said-by : (b : ℕ) (a : Answer) (n : ℕ) (ps : List Field) → n < b → ((t : Marks) → Said b (match_from model entry t (suc n) ps)) →
      Said b (elim a [ rejection r ↦ rejected n r | cover c after ↦ with_cover c (match_from model entry after (suc n) ps) ])
  said-by b (rejection r) n ps h s = h
  said-by b (cover c t) n ps h s = said-with b c (match_from model entry t (suc n) ps) (s t)

  said-from : (b : ℕ) (ps : List Field) (s : Marks) (n : ℕ) → n + length ps ≤ b → Said b (match_from model entry s n ps)
  unfolding match_from
  said-from b [] s n h = tt
  said-from b (p ∷ ps) s n h = said-by b (answer model entry s p) n ps (omega (arith, h)) (λ t. said-from b ps t (suc n) (omega (arith, h)))

module _ (file : List ℕ) (f : ask_file file ≡ passes) (n : ℕ) (h : n < length (entries (fields file))) where
  abbrev model : Fields
  model = fields file

  abbrev entry : Field
  entry = (entry_at model n).this

  pub entry-said : Said 64 (entry_verdict model n covers_enough)
  unfolding entry_verdict matching
  entry-said = go (ask_entry model n covers_enough) refl (fine-entry file (short-file file f) n h covers_enough)
    where
      go : (a : Asked) → ask_entry model n covers_enough ≡ a → Fine most_in_two_bytes a → Said 64 (elim a [ fails k p ↦ refused k p | passes ↦ matching model entry ])
      go passes e s = said-from model entry 64 (payouts entry) (start model entry) 0 (omega (arith, passed-room model n covers_enough e))
      go (fails k p) e s = s

pub spare-few : (model : Fields) (n : ℕ) (cs : List Cover) → entry_verdict model n covers_enough ≡ accepted cs → spare (entry_at model n).this ≤ 64
unfolding spare
spare-few model n cs e = omega (arith, passed-few model n covers_enough (accepted-passes model n covers_enough cs e))
