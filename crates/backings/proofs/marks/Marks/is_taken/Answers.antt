-- The chain asks each backing in turn.
use Rattle.std.proofs.Common.{rules, arith, refl}
use Rattle.std.proofs.lemmas.Iterator.{YieldsList-from_range}
use Rattle.std.proofs.lemmas.Iterator.Search.{any_from_yields_List}
use Rattle.fields.specs.Field.{front}
use Rattle.guards.specs.Payouts.{payout_amount}
use Rattle.backings.specs.Tables.{equal_to, taken_in}
use Rattle.backings.proofs.marks.Marks.is_taken.Goals as goal

pub returns : goal.returns
unfolding taken_in equal_to
returns c =
    any_from_yields_List
    (taken_in c.args.file.now c.args.entry.now c.args.self.now.free (equal_to (payout_amount (front c.args.s.now)))) c.any.new.self _
    c.any.result c.any.ensures.ran (YieldsList-from_range 0 _ _ refl (omega arith)) (λ x b q k. (search rules, search rules))
