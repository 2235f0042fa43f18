-- The model that a file carries: its state fields, genesis statements and entries, and the parts of an entry.
use Rattle.std.specs.Prelude.{ℕ, List, map}
use Rattle.tags.specs.Tag.{State, Genesis, Entry, Parameter, Limits, Denies, Guard, ExpressionStatement}
use Rattle.fields.specs.Field.{Field, Fields, Placed, text, parts, part, fields_from, placed_from}

-- the name of a state field, an entry or a parameter
abbrev pub name_of : Field → List ℕ
name_of f = text (part 0 f)

-- the state fields, in file order
unfoldable pub states : Fields → List Placed
states model = placed_from State State 0 model

-- their names
unfoldable pub state_names : Fields → List (List ℕ)
state_names model = map name_of (fields_from State State model)

-- the genesis statements: each 02 holds one
unfoldable pub genesis : Fields → List Field
genesis model = map (part 0) (fields_from Genesis Genesis model)

-- the entries
unfoldable pub entries : Fields → List Placed
entries model = placed_from Entry Entry 0 model

-- the parameters of an entry
unfoldable pub params : Field → List Field
params entry = fields_from Parameter Parameter (parts entry)

-- its clauses
unfoldable pub clauses : Field → List Field
clauses entry = fields_from Limits Denies (parts entry)

-- its body statements
unfoldable pub body : Field → List Field
body entry = fields_from Guard ExpressionStatement (parts entry)
