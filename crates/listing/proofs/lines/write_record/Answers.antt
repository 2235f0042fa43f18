-- What the record is decides: an accepted entry's lines are those of what is no outcome, too.
use Rattle.std.proofs.Common.{◌≡◌, ◌∙◌, ap, sym, rules}
use Rattle.contract.specs.Reading.{outcome_in}
use Rattle.verdict.specs.Outcomes.{outcome_number}
use Rattle.listing.proofs.Reading.{lines-refused, lines-rejected, lines-accepted, neither-accepted, neither-unknown}
use Rattle.listing.proofs.lines.write_record.Goals.{in-Ok+in-Accepted-1, in-Err-1}
use Rattle.listing.proofs.lines.write_record.Goals as goal

pub returns-in-Ok-Refused : goal.returns-in-Ok-Refused
returns-in-Ok-Refused c =
    lines-refused _ _ _ (c.from-first.ensures ∙ c.first.ensures) _ _ _ (c.from-second.ensures ∙ c.second.ensures)
    (sym (ap outcome_number c.in-Ok-Refused.field-0-is) ∙ c.in-Ok-Refused.ensures) c.write_line.ensures

pub returns-in-Ok-Rejected : goal.returns-in-Ok-Rejected
returns-in-Ok-Rejected c =
    lines-rejected _ _ _ (c.from-first.ensures ∙ c.first.ensures) _ _
    (sym (ap outcome_number c.in-Ok-Rejected.field-0-is) ∙ c.in-Ok-Rejected.ensures) c.write_line-in-Ok-Rejected.ensures

pub returns-in-Ok-Accepted : goal.returns-in-Ok-Accepted
returns-in-Ok-Accepted c =
    let neither : (outcome_in c.args.front.bytes.now ≡ 2 → ⊥) × (outcome_in c.args.front.bytes.now ≡ 1 → ⊥) =
    elim c.in-Ok-Accepted-1.branch [ in-Ok+in-Accepted-1 w ↦ search (neither-accepted, rules) | in-Err-1 w ↦ search (neither-unknown, rules) ] in
    lines-accepted _ _ _ (c.from-first.ensures ∙ c.first.ensures) _ _ _ (c.from-second.ensures ∙ c.second.ensures) neither.0 neither.1
    c.write_line-in-Ok-Accepted.ensures _ c.covers.ensures _ c.write_covers.ensures
