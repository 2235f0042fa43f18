-- The test of each slot is that of its number.
use Rattle.std.proofs.Common.{rules, sym, ◌∙◌}
use Rattle.std.proofs.lemmas.Iterator.{YieldsList-from_slice}
use Rattle.std.proofs.lemmas.Iterator.Search.{all_from_yields_List}
use Rattle.std.proofs.lemmas.List.Folds.{list_all-map}
use Rattle.grammar.specs.Grammar.{complete, may_stay_empty}
use Rattle.grammar.specs.Slots.{slot_number}
use Rattle.grammar.proofs.Slots.is_complete.Goals as goal

pub returns : goal.returns
unfolding complete
returns c =
    all_from_yields_List (λ s. may_stay_empty (slot_number s)) c.all.new.self _ c.all.result c.all.ensures.ran (YieldsList-from_slice c.args.self.left.now (cc)) (λ x b q k. search rules)
    ∙ sym (list_all-map may_stay_empty slot_number c.args.self.left.now)
