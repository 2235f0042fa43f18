-- A denial is negated, and a limit or a guard stands as it is: the expression is behind the head.
use Rattle.conditions.proofs.Splitting.{none-listed, one-listed}
use Rattle.conditions.proofs.list.list_conditions.Goals as goal

pub returns-in-Some-clause-listed : goal.returns-in-Some-clause-listed
returns-in-Some-clause-listed c =
    one-listed c.args.field c.parts.result c.parts.ensures.place c.parts.ensures.reads c.args.table.now c.empty_table-conditions.result
    c.empty_table-conditions.ensures.items c.empty_table-conditions.ensures.none _ c.tag.ensures _ _ c.in-Some.ensures.steps c.list_one.new.conditions c.list_one.ensures

pub returns-in_default-clause-listed : goal.returns-in_default-clause-listed
returns-in_default-clause-listed c =
    none-listed c.args.field c.parts.result c.parts.ensures.place c.parts.ensures.reads c.args.table.now c.empty_table-conditions.result
    c.empty_table-conditions.ensures.items c.empty_table-conditions.ensures.none c.in_default.ensures.steps
