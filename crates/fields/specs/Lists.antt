-- What a table holds after items were listed in it.
use Rattle.std.specs.Prelude.{◌≡◌, List}
use Rattle.fields.specs.Table.{Listed}
use Rattle.fields.specs.declared.table.Table.{Table}

-- they were listed behind those of before, and the table is still the one that was lent
pub record Lists {T : Type 0} (xs : List T) (old new : Table T) : Type 0 where
  pub listed : Listed xs old.items.now old.count new.items.now new.count
  pub same : new.items.ghost_name ≡ old.items.ghost_name
