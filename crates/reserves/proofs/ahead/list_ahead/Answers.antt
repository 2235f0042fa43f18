-- Guard by guard its number is written behind the others, where it has one.
use Rattle.std.proofs.Common.{◌≡◌, ◌++◌, sym, append-nil}
use Rattle.std.specs.Option.{option_to_list}
use Rattle.reserves.proofs.Holders.{listing-none, listing-on}
use Rattle.reserves.proofs.ahead.list_ahead.Goals.{in-Some-lowered_number, in_default-lowered_number}
use Rattle.reserves.proofs.ahead.list_ahead.Goals as goal

pub loop-n-init : goal.loop-n-init
loop-n-init g c = rw (c.new-numbers.ensures) (listing-none _ _ _ _)

pub loop-n-preserved : goal.loop-n-preserved
loop-n-preserved g c =
    rw numbers (listing-on _ _ _ _ _ _ _ (rw (c.in-Some.is) at c.loop-n.invariant) _ c.part_of.ensures.reads _ c.guarded_field-name.ensures _
    c.lowered_number.ensures.number _ c.after_front.ensures _ c.first_guard-ahead.ensures.found c.first_guard-ahead.ensures.within)
  where
    numbers : c.match-lowered_number.numbers.items ≡ c.loop-n.numbers.items ++ option_to_list c.lowered_number.result
    numbers = elim c.match-lowered_number.branch [
      | in-Some-lowered_number w ↦ rw (w.numbers-is, w.in-Some-lowered_number.is) (w.push.ensures.items)
      | in_default-lowered_number w ↦ rw (w.numbers-is, w.in_default-lowered_number.is) (sym (append-nil _))
    ]
