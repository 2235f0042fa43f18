-- The calls that are gone through are listed where they pass.
use Rattle.std.proofs.Common.{◌∙◌}
use Rattle.entries.proofs.Choosing.{choosing-listed, choosing-passed}
use Rattle.entries.proofs.calls.list_where.Goals.{then-test, else-test}
use Rattle.entries.proofs.calls.list_where.Goals as goal

pub loop-call-preserved : goal.loop-call-preserved
loop-call-preserved g c =
    let next = c.loop-call.invariant in
    elim c.if-test.branch [
      | then-test w ↦
          rw w.places-is
          (choosing-listed _ _ _ _ _ _ next c.loop-call-test.true _ c.from.ensures _ c.skip.ensures _ (λ passes says. says _ _ c.test.ensures)
          w.if-test.true _ w.note.ensures)
      | else-test w ↦
          rw w.places-is
          (choosing-passed _ _ _ _ _ _ next c.loop-call-test.true _ c.from.ensures _ c.skip.ensures _ (λ passes says. says _ _ c.test.ensures) w.if-test.false)
    ]

pub returns-clause-same_reference : goal.returns-clause-same_reference
returns-clause-same_reference g c = c.loop-call.invariant.same ∙ c.empty_table-places.ensures.same_reference
