-- The maps that some call funds are listed, and what is remembered of state fields stays as it is.
use Rattle.std.proofs.Common.{ℕ, ◌≤◌, ◌≡◌, sym, ap, ◌∙◌, true, List, arith, length, set}
use lib.Seq.{set_out}
use Rattle.std.proofs.Props.{props}
use Rattle.fundings.specs.declared.facts.Facts.{Facts}
use Rattle.fundings.specs.declared.ledger.Funding.{Funding}
use Rattle.fundings.specs.Fundings.{funding_number, number_of_map, EachMap}
use Rattle.fundings.specs.Remembered.{state_fields}
use Rattle.fundings.specs.Funded.{Relisted, remembered_at}

-- where they are listed, a map's set is looked up among them
pub listed-number : (m : List ℕ) (facts : Facts) → facts.listed ≡ true → (l : List Funding) → l ≡ facts.maps.items →
    (k : ℕ) → k ≡ number_of_map facts.file.now m l → k ≡ funding_number facts.file.now m
listed-number m facts h l e k g = g ∙ rw e (facts.funded h m)

-- What is remembered of a state field

-- facts that remember the same say the same of state fields, whatever is listed
pub relisted-all : (facts last : Facts) → last.file ≡ facts.file → last.held ≡ facts.held → Relisted facts last
unfolding remembered_at
relisted-all facts last f h = record { file = f; kept = λ i. rw h }

-- facts that say the same are the same, however they are known to be right
pub facts-alike : (x : Facts) (s : length x.file.now ≤ 32768) (f : x.listed ≡ true → EachMap x.file.now x.maps.items) → record x { short = s; funded = f } ≡ x
facts-alike x s f =
    let p : IsProp (length x.file.now ≤ 32768) = hlevel props in
    let q : IsProp (x.listed ≡ true → EachMap x.file.now x.maps.items) = hlevel props in
    ap (λ s. record x { short = s; funded = f }) (p s x.short) ∙ ap (λ f. record x { funded = f }) (q f x.funded)

-- past the end of the table nothing is written
pub facts-kept : (x : Facts) (index number : ℕ) → length x.held ≡ state_fields → state_fields ≤ index → x ≡ record x { held = set x.held index number }
facts-kept x index number e h = sym (ap (λ held. record x { held = held }) (set_out x.held index number (omega (arith, e, h))))
