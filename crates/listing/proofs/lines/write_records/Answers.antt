-- The records come one after the other.
use Rattle.std.proofs.Common.{refl, arith, inl, length-append}
use Rattle.std.proofs.lemmas.Iterator.Consumers.{YieldsList-from_first, YieldsList-from_enumerate, YieldsList-at, YieldsList-turn, YieldsList-end}
use Rattle.listing.specs.Reading.{bytes_of, left}
use Rattle.listing.proofs.Reading.{records-count, lined-none, lined-on, lined-all}
use Rattle.listing.proofs.lines.write_records.Goals as goal

pub loop-number-init-derived : goal.loop-number-init-derived
loop-number-init-derived c =
    let many = records-count c.first_records.result.left c.first_records.result.rest.now in (
      (
        tt,
        tt,
        inl (rw (c.into_iter-number-iterator.ensures.into_iter_gives, c.enumerate-number-items.ensures.count, c.enumerate-number-items.ensures.source)
            (omega (arith, many, c.first_records.ensures.count))),
      ),
      tt,
    )

pub loop-number-init : goal.loop-number-init
loop-number-init c = lined-none _ _ _

pub loop-number-preserved : goal.loop-number-preserved
loop-number-preserved c =
    let turn = YieldsList-turn
    (YieldsList-at c.into_iter-number-iterator.ensures.into_iter_gives
    (YieldsList-from_enumerate (YieldsList-at c.enumerate-number-items.ensures.source (YieldsList-from_first bytes_of left _ refl)) c.enumerate-number-items.ensures.count))
    c.loop-number.yielded _ c.loop-number.yielded_by _ c.next.new.self _ c.in-Some.is c.next.ensures.steps in
    rw length-append
    (lined-on _ _ _ _ _ c.loop-number.invariant _ _ (rw (c.first_records.ensures.count, c.first_records.ensures.rest) at turn) _ c.write_record.ensures)

pub returns : goal.returns
returns c =
    let end = YieldsList-end
    (YieldsList-at c.into_iter-number-iterator.ensures.into_iter_gives
    (YieldsList-from_enumerate (YieldsList-at c.enumerate-number-items.ensures.source (YieldsList-from_first bytes_of left _ refl)) c.enumerate-number-items.ensures.count))
    c.loop-number.yielded _ c.loop-number.yielded_by _ c.next.new.self c.in-None.is c.next.ensures.steps in
    lined-all _ _ _ _ _ c.loop-number.invariant (rw (c.first_records.ensures.count, c.first_records.ensures.rest) at end.1)
