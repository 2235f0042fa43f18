-- What the questions say of a file and of an entry that pass them.
use Rattle.std.proofs.Common.{ℕ, ◌*◌, ◌≤◌, ◌≡◌, refl, ap, List, [], ◌∷◌, arith, leb-true, leb, length, drop, length-drop}
use mathlib.Core.Bool.{false≢true}
use Rattle.laws.specs.Lists.{filter}
use Rattle.fields.specs.Field.{Fields, Placed, fields}
use Rattle.model.specs.Model.{states, entries}
use Rattle.questions.specs.Questions.{Asked, passes, fails, ask, ◌and_then◌, at_most, ask_form, ask_names, ask_file}
use Rattle.walking.specs.Walking.{body_exprs, is_payout, payouts}
use Rattle.matching.specs.Matching.{Cover, start}
use Rattle.claim.specs.Verdict.{accepted, matching, backing_count, entry_at, ask_exists, ask_entry, entry_verdict}
use Rattle.claim.proofs.Fitting.{earlier-asked, later-asked, asked}
use Rattle.claim.proofs.Passing.{a-pass, passed-count}
use Rattle.contract.specs.Records.{covers_enough}

-- at most n
at-most : (n k : ℕ) (l : List Placed) → at_most n k l ≡ passes → length l ≤ n
unfolding at_most
at-most n k l e = go (drop n l) refl
  where
    go : (m : List Placed) → drop n l ≡ m → length l ≤ n
    go [] h = let g : length (drop n l) ≡ 0 = ap length h in omega (arith, rw length-drop at g)
    go (p ∷ ps) h = absurd (false≢true (cc))

-- question 8
pub few-entries : (file : List ℕ) → ask_file file ≡ passes → length (entries (fields file)) ≤ 64
unfolding ask_file
few-entries file e =
    at-most 64 8 (entries (fields file)) (later-asked (ask_names [] (states (fields file))) _ (later-asked (ask_form file) _ e))

module _ (model : Fields) (n lent : ℕ) (e : ask_entry model n lent ≡ passes) where
  after-ninth : at_most 64 10 (filter (λ p. is_payout p.this) (body_exprs (entry_at model n))) and_then ask (leb (backing_count (entry_at model n).this) 64) 11 (entry_at model n).place
      and_then ask (leb (3 * length (payouts (entry_at model n).this)) lent) 12 0 ≡ passes
  unfolding ask_entry
  after-ninth = later-asked (ask_exists model n) _ e

  after-tenth : ask (leb (backing_count (entry_at model n).this) 64) 11 (entry_at model n).place
      and_then ask (leb (3 * length (payouts (entry_at model n).this)) lent) 12 0 ≡ passes
  after-tenth = later-asked (at_most 64 10 (filter (λ p. is_payout p.this) (body_exprs (entry_at model n)))) _ after-ninth

  pub passed-few : backing_count (entry_at model n).this ≤ 64
  passed-few =
      leb-true (backing_count (entry_at model n).this) 64 (asked (leb (backing_count (entry_at model n).this) 64) 11 (entry_at model n).place (earlier-asked _ _ after-tenth))

  pub passed-room : 3 * length (payouts (entry_at model n).this) ≤ lent
  passed-room =
      leb-true (3 * length (payouts (entry_at model n).this)) lent (asked (leb (3 * length (payouts (entry_at model n).this)) lent) 12 0
      (later-asked (ask (leb (backing_count (entry_at model n).this) 64) 11 (entry_at model n).place) _ after-tenth))

-- an accepted entry passes them
module _ (model : Fields) (n lent : ℕ) (cs : List Cover) (e : entry_verdict model n lent ≡ accepted cs) where
  pub accepted-passes : ask_entry model n lent ≡ passes
  unfolding entry_verdict
  accepted-passes = go (ask_entry model n lent) refl
    where
      go : (a : Asked) → ask_entry model n lent ≡ a → a ≡ passes
      go passes h = refl
      go (fails k p) h = absurd (false≢true (cc))

  pub accepted-matched : matching model (entry_at model n).this ≡ accepted cs
  unfolding entry_verdict
  accepted-matched = cc accepted-passes

  pub accepted-count : length cs ≡ length (payouts (entry_at model n).this)
  unfolding matching
  accepted-count =
      let entry = (entry_at model n).this in
      passed-count model entry (start model entry) (payouts entry) cs (a-pass model entry (start model entry) 0 (payouts entry) cs accepted-matched)

  pub accepted-few : lent ≡ covers_enough → length cs ≤ 64
  accepted-few h = omega (arith, accepted-count, passed-room model n lent accepted-passes, h)
