-- An entry whose calls the code goes through.
use Rattle.std.specs.Prelude.{ℕ, List, drop}
use Rattle.fields.specs.Field.{Field, front}
use Rattle.fundings.specs.Fundings.{funded_by, Joins}
use Rattle.fundings.specs.declared.funder.Funder.{Funder}
use Rattle.fundings.specs.declared.ledger.Funding.{Funding}

-- the entry itself
abbrev pub entry_of : Funder → Field
entry_of e = front (drop e.entry.place e.entry.file.now)

-- what it names is joined to the sets of the maps that some of its calls fund
abbrev pub CallsJoin : Funder → List Field → (named : ℕ) (old new : List Funding) → Type 0
CallsJoin e fs named old new = Joins e.entry.file.now (funded_by (entry_of e) fs) named old new
