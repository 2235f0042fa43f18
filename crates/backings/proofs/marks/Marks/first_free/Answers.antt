-- The chain asks each backing in turn.
use Rattle.std.proofs.Common.{rules, ◌∙◌, arith, refl}
use Rattle.std.proofs.lemmas.Iterator.{YieldsList-from_range}
use Rattle.std.proofs.lemmas.Iterator.Search.{find_from_yields_List}
use Rattle.fields.specs.Field.{front}
use Rattle.guards.specs.Payouts.{payout_amount}
use Rattle.backings.specs.Tables.{asked_by, free_in}
use Rattle.backings.proofs.Marking.{found-same, asked-same}
use Rattle.backings.proofs.marks.Marks.first_free.Goals as goal

pub returns : goal.returns
unfolding free_in
returns c =
    found-same c.find.result
    ∙ find_from_yields_List
    (free_in c.args.file.now c.args.entry.now c.args.self.now.free (asked_by c.args.test (payout_amount (front c.args.s.now)))) c.find.new.self _
    c.find.result c.find.ensures.ran (YieldsList-from_range 0 _ _ refl (omega arith)) (λ x b q k. (search rules, search (asked-same, rules)))
