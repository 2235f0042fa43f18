-- Model files written by hand, for examples.
use Rattle.std.proofs.Common.{ℕ, zero, suc, ◌/◌, ◌%◌, List, [], ◌∷◌, ◌++◌, length}
use Prim.Native.String.{String}
use Rattle.laws.specs.Texts.{bytes}
use Rattle.tags.specs.Tag.{Name, TypeName, Integer, Identifier, Not}

-- a field: its tag, the two bytes of its length, its content
abbrev pub write : ℕ → List ℕ → List ℕ
write t c = t ∷ length c / 256 ∷ length c % 256 ∷ c

-- a field with a text
abbrev pub word : ℕ → String → List ℕ
word t s = write t (bytes s)

abbrev pub name : String → List ℕ
name s = word Name s

abbrev pub type_name : String → List ℕ
type_name s = word TypeName s

abbrev pub integer : String → List ℕ
integer s = word Integer s

abbrev pub identifier : String → List ℕ
identifier s = word Identifier s

-- bytes n times
abbrev pub times : ℕ → List ℕ → List ℕ
times zero c = []
times (suc n) c = c ++ times n c

-- an expression n times inside `not`
abbrev pub nots : ℕ → List ℕ → List ℕ
nots zero e = e
nots (suc n) e = write Not (nots n e)
