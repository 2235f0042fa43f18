-- Field by field, a number that is right is written, so the table stays right.
use Rattle.std.proofs.Common.{rules, ◌∙◌}
use Rattle.std.proofs.lemmas.Slice.Zip.{zip_turn}
use Rattle.reserves.proofs.Remembering.{each-written}
use Rattle.reserves.proofs.reading.Reading.work_out_each.Goals as goal

pub invariant_of-self-clause-right : goal.invariant_of-self-clause-right
invariant_of-self-clause-right c =
    let turn = zip_turn c.args.indices.now c.numbers_of-numbers.result c.loop-index.yielded _ _ c.next.new.self _ (search rules) (search rules)
    c.loop-index.yielded_by _ c.in-Some.is c.next.ensures.steps in
    each-written _ _ _ c.numbers_of-numbers.ensures.numbered _ turn.0 _ (search rules) (search rules) _ (turn.3 0) _ (c.from.ensures ∙ turn.2 0) _ c.remember.ensures
