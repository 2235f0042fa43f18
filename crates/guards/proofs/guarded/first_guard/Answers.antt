-- The first that bounds the amount is where `find` stops.
use Rattle.std.proofs.Common.{rules, tests}
use Rattle.fields.specs.Field.{front}
use Rattle.guards.proofs.Bounding.{is_bounding, stops, bounding-found}
use Rattle.guards.proofs.guarded.first_guard.Goals as goal

pub returns : goal.returns
returns c =
    let found = stops _ (is_bounding (front c.args.amount.now)) _ (λ x b q k. search (rules, tests))
    _ c.fields_at.result _ c.find.result _ c.find.ensures.ran.2 c.find.ensures.ran.3 c.find.ensures.ran.4 in
    record { found = bounding-found _ _ _ c.fields_at.ensures.rest _ found; within = rw c.fields_at.ensures.rest at found.within }
