-- A step leaves one field fewer.
use Rattle.std.proofs.Common.{rules}
use Rattle.fields.proofs.InARow.{placed-next}
use Rattle.fields.proofs.row.FieldsIterator.next.Goals as goal

pub returns-clause-goes : goal.returns-clause-goes
returns-clause-goes c =
    let here = placed-next c.args.self.now.rest.now (search rules) c.args.self.now.place in
    search (rules, here)
