-- The row yields the entries, one after the other.
use Rattle.std.proofs.Common.{◌≡◌, ◌<◌, refl, ap, ◌∙◌, rules, arith, eqb, length, get_or, length-append}
use Rattle.std.proofs.lemmas.Iterator.Consumers.{YieldsList-from_filter, YieldsList-at, YieldsList-turn, YieldsList-end}
use Rattle.tags.specs.Tag.{Entry}
use Rattle.fields.specs.Field.{fields, tag}
use Rattle.fields.specs.Row.{shown}
use Rattle.fields.proofs.InARow.{along-placed}
use Rattle.model.specs.Model.{entries}
use Rattle.reserves.proofs.Remembering.{facts-none}
use Rattle.claim.proofs.Fitting.{short-file}
use Rattle.verdict.specs.Outcomes.{outcome_number}
use Rattle.contract.proofs.Recording.{entries-of, recording-none, worse-of, next-counted, next-inside, recording_on, recording-all}
use Rattle.contract.proofs.records.record_entries.Goals.{In-Some}
use Rattle.contract.proofs.records.record_entries.Goals as goal

pub new-reading-requires-clause-right : goal.new-reading-requires-clause-right
new-reading-requires-clause-right c = search facts-none

pub loop-entry-init : goal.loop-entry-init
loop-entry-init c =
    let e = c.nothing_known-facts.ensures.file (short-file _ c.requires.passed) in
    (refl, recording-none _ c.requires.passed _ _ (search (e, rules)))

-- what the row yields is the next entry
next : (c : In-Some) → (c.loop-entry.count < length (entries (fields c.args.file.now)))
    × (shown c.in-Some.entry ≡ get_or (entries (fields c.args.file.now)) c.loop-entry.count (shown c.in-Some.entry))
next c =
    rw (entries-of _ _ _ c.fields_at.ensures.rest c.fields_at.ensures.place, ← c.loop-entry.invariant.0) at (YieldsList-turn
    (YieldsList-at c.into_iter-entry-iterator.ensures.into_iter_gives
    (YieldsList-from_filter _ (λ p. eqb (tag p.this) Entry) (YieldsList-at c.filter-entry-items.ensures.source (along-placed _)) c.filter-entry-items.ensures.closure
    (λ x b q k. search rules)))
    c.loop-entry.yielded _ c.loop-entry.yielded_by _ c.next.new.self c.in-Some.entry c.in-Some.is c.next.ensures.steps)

pub record_entry-what-requires : goal.record_entry-what-requires
record_entry-what-requires c = rw c.loop-entry.invariant.1.of (next-inside _ c.requires.passed c.new-output.result _ _ (next (goal.at.record_entry-what-requires c).In-Some))

pub overflow_add-count : goal.overflow_add-count
overflow_add-count c = let few = next-counted _ c.requires.passed c.new-output.result _ _ (next (goal.at.overflow_add-count c).In-Some) in omega arith

pub loop-entry-preserved : goal.loop-entry-preserved
loop-entry-preserved c = (
  rw (length-append, ← c.loop-entry.invariant.0),
  recording_on _ c.requires.passed c.new-output.result _ _ (next (goal.at.loop-entry-preserved c).In-Some) _ _ _ c.loop-entry.invariant.1 _
      c.record_entry-what.ensures.same _ _ (rw c.loop-entry.invariant.1.of at c.record_entry-what.ensures.record) _ (ap outcome_number c.max-outcome.ensures ∙ worse-of _ _),
)

pub returns : goal.returns
returns c =
    let end = YieldsList-end
    (YieldsList-at c.into_iter-entry-iterator.ensures.into_iter_gives
    (YieldsList-from_filter _ (λ p. eqb (tag p.this) Entry) (YieldsList-at c.filter-entry-items.ensures.source (along-placed _)) c.filter-entry-items.ensures.closure
    (λ x b q k. search rules)))
    c.loop-entry.yielded _ c.loop-entry.yielded_by _ c.next.new.self c.in-None.is c.next.ensures.steps in
    let all = rw (entries-of _ _ _ c.fields_at.ensures.rest c.fields_at.ensures.place, ← c.loop-entry.invariant.0) at end.1 in
    recording-all _ c.requires.passed c.new-output.result _ _ _ _ c.loop-entry.invariant.1 all _ _ c.new-output.ensures.kept c.new-output.ensures.none (search rules)
