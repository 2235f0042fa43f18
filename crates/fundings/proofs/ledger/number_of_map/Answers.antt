-- The first that is the map has its set.
use Rattle.std.proofs.Common.{rules}
use Rattle.std.proofs.lemmas.Iterator.{YieldsList-from_slice}
use Rattle.std.proofs.lemmas.Iterator.Search.{find_from_yields_List}
use Rattle.fundings.specs.Fundings.{is_map}
use Rattle.fundings.proofs.Maps.{set-found}
use Rattle.fundings.proofs.ledger.number_of_map.Goals as goal

pub returns : goal.returns
returns c =
    set-found (λ x. x.now) c.args.file.now c.args.map.now c.args.maps.now c.find.result
    (find_from_yields_List (is_map c.args.file.now c.args.map.now) c.find.new.self _ c.find.result c.find.ensures.ran
    (YieldsList-from_slice c.args.maps.now (search rules)) (λ x b q k. search rules))
    c.map_or.result c.map_or.ensures (λ x p. search rules)
