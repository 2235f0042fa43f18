-- The map is listed and another set is written, or it is listed behind all others.
use Rattle.std.proofs.lemmas.Result.{on_ok_weaker}
use Rattle.fundings.proofs.Joins.{join-written, join-listed}
use Rattle.fundings.proofs.ledger.join_map.Goals as goal

pub returns-in-Some : goal.returns-in-Some
returns-in-Some c =
    join-written c.args.file.now c.args.maps.now.items c.args.place c.args.named _ c.skip.ensures _ c.ident-map.ensures.reads
    _ c.as_slice.ensures.value _ c.find_map.ensures _ c.in-Some.is _ _ _ c.deref.ensures.0 c.deref_mut.ensures.value _ c.join_tokens.ensures

pub returns : goal.returns
returns c =
    on_ok_weaker _
    (join-listed c.args.file.now c.args.maps.now.items c.args.place c.args.named _ c.skip.ensures _ c.ident-map.ensures.reads
    _ c.as_slice.ensures.value _ c.find_map.ensures c.in_default.is _ c.short_number.ensures _)
    c.try_push.ensures.ok
