-- Questions 1 to 8 computed: each number with its place, and each boundary on both sides.
use Rattle.std.proofs.Common.{ℕ, ◌≡◌, refl, List, [], ◌∷◌, ◌++◌, map, replicate}
use Rattle.laws.specs.Texts.{same_bytes, known}
use Rattle.tags.specs.Tag.{State, Genesis, Entry, Parameter, Limits, Denies, Guard, Let, Emit, Set, ExpressionStatement, Name}
use Rattle.tags.specs.Tag.{Date, String, Caller, InAsset, Member, Call, Eq, is_item, is_clause, is_statement, is_expression, is_text}
use Rattle.tags.specs.Tag.{composite}
use Rattle.fields.specs.Field.{fields, fields_to, nth, row, fields_from, size, sizes, placed, placed_from}
use Rattle.fields.proofs.Writing.{write, word, name, type_name, integer, identifier, times, nots}
use Rattle.model.specs.Model.{states, entries}
use Rattle.grammar.specs.Grammar.{in_class, grammar, slots_in, advance, complete}
use Rattle.questions.specs.Questions.{Asked, content_allowed, ask_field, ask_fields, ask_names, at_most, ask_form, ask_file}
use Rattle.questions.specs.Questions.Asked.{passes, fails}

record Example : Type 0 where
  file : List ℕ
  expected : Asked

abbrev answers : List ℕ → Asked → Example
answers f a = record { file = f; expected = a }

-- the entry f, whose parts behind its name stand from 7 on
abbrev entry : List ℕ → List ℕ
entry c = write Entry (name "f" ++ c)

abbrev one : List ℕ → Asked → Example
one c a = answers (entry c) a

abbrev parameter : List ℕ
parameter = write Parameter (name "n" ++ type_name "u64")

abbrev state : List ℕ → List ℕ → List ℕ
state n default = write State (n ++ type_name "u64" ++ default)

-- a guard in an entry, whose expression stands at 10
abbrev guard : List ℕ → List ℕ
guard e = write Guard e

abbrev in_asset : List ℕ
in_asset = write InAsset []

examples : List Example
examples =
    answers [] passes ∷
    -- 1: 32,769 bytes, of whatever kind; 32,768 pass
    answers (replicate 32769 0) (fails 1 0) ∷
    answers (state (name "r") (write String (replicate 32752 0x20))) passes ∷
    -- 2: a head cut after one byte and after two; a cut content; longer than its encloser, deep inside; before 3
    answers (0x03 ∷ []) (fails 2 0) ∷
    answers (0x03 ∷ 0x00 ∷ []) (fails 2 0) ∷
    answers (entry [] ++ (0x03 ∷ 0x00 ∷ 0x05 ∷ 0x20 ∷ [])) (fails 2 7) ∷
    answers (write Entry (0x20 ∷ 0x00 ∷ 0x05 ∷ 0x66 ∷ []) ++ entry []) (fails 2 3) ∷
    one (guard (write Eq (in_asset ++ (0x33 ∷ 0x00 ∷ 0x02 ∷ 0x54 ∷ [])))) (fails 2 16) ∷
    one (guard (write Eq (in_asset ++ (0x33 ∷ 0x00 ∷ 0x01 ∷ 0x54 ∷ [])))) passes ∷
    one (guard (write Eq (in_asset ++ identifier "T" ++ (0x33 ∷ 0x00 ∷ [])))) (fails 2 20) ∷
    answers (0x07 ∷ 0x00 ∷ 0x01 ∷ []) (fails 2 0) ∷
    -- 3: no such tag; a parameter in the name's place; a clause behind a statement; a second default; a third side; a
    -- second expression; a name where an expression belongs; a tag of the top level inside an entry
    answers (write 0x07 []) (fails 3 0) ∷
    answers (write Entry parameter) (fails 3 3) ∷
    one (guard in_asset ++ write Limits in_asset) (fails 3 13) ∷
    one (write Denies in_asset ++ write Limits in_asset ++ guard in_asset) passes ∷
    answers (state (name "r") (integer "0" ++ integer "0")) (fails 3 17) ∷
    one (guard (write Eq (in_asset ++ in_asset ++ in_asset))) (fails 3 19) ∷
    one (guard (in_asset ++ in_asset)) (fails 3 13) ∷
    one (guard (name "x")) (fails 3 10) ∷
    one (entry []) (fails 3 7) ∷
    one (write Emit (name "e" ++ in_asset ++ in_asset ++ in_asset)) passes ∷
    one (write Let (name "x" ++ in_asset) ++ write Set (identifier "x" ++ in_asset)) passes ∷
    one (guard (write Member (identifier "a" ++ name "b"))) passes ∷
    -- 4: depth 33, before 5; depth 32 passes; a default and a clause begin at 1 too
    one (guard (nots 32 (identifier ""))) (fails 4 106) ∷
    one (guard (nots 31 (identifier "x"))) passes ∷
    one (write Limits (nots 32 in_asset)) (fails 4 106) ∷
    answers (state (name "r") (nots 32 in_asset)) (fails 4 109) ∷
    answers (state (name "r") (nots 31 in_asset)) passes ∷
    -- 5: bytes 1F, 20, 7E, 7F; empty names; empty integers, dates and strings pass; a filled empty field; before 6
    answers (write Entry (write Name (0x1F ∷ []))) (fails 5 3) ∷
    answers (write Entry (write Name (0x20 ∷ []))) passes ∷
    answers (write Entry (write Name (0x7E ∷ []))) passes ∷
    answers (write Entry (write Name (0x61 ∷ 0x7F ∷ []))) (fails 5 3) ∷
    answers (write State (name "")) (fails 5 3) ∷
    answers (write State (name "r" ++ type_name "")) (fails 5 7) ∷
    one (guard (identifier "")) (fails 5 10) ∷
    one (guard (integer "") ++ guard (word Date "") ++ guard (word String "")) passes ∷
    one (guard (write Caller (0x20 ∷ []))) (fails 5 10) ∷
    -- 6: no name; no type name; one side; a call of nothing; a member without a name; an empty genesis; the inner field
    -- before the outer, and a neighbour's after
    answers (write Entry []) (fails 6 0) ∷
    answers (write State (name "r")) (fails 6 0) ∷
    one (guard (write Eq in_asset)) (fails 6 10) ∷
    one (write ExpressionStatement (write Call [])) (fails 6 10) ∷
    one (guard (write Member (identifier "a"))) (fails 6 10) ∷
    answers (write Genesis []) (fails 6 0) ∷
    one (write Set (write Eq in_asset)) (fails 6 10) ∷
    one (write Set in_asset ++ write 0x07 []) (fails 6 7) ∷
    -- 7: a name for the second time, before 8; other fields between
    answers (state (name "r") [] ++ entry [] ++ state (name "q") [] ++ state (name "r") []) (fails 7 33) ∷
    answers (state (name "r") [] ++ state (name "q") [] ++ state (name "rr") []) passes ∷
    answers (times 65 (entry []) ++ times 2 (state (name "r") [])) (fails 7 468) ∷
    -- 8: 65 entries; 64 pass
    answers (times 65 (entry [])) (fails 8 448) ∷
    answers (times 64 (entry [])) passes ∷ []

found : List Example → List Asked
unfolding same_bytes known is_item is_clause is_statement is_expression is_text composite fields fields_to nth row
    fields_from size sizes placed placed_from states entries in_class grammar slots_in advance complete content_allowed ask_field
    ask_fields ask_names at_most ask_form ask_file
found es = map (λ e. ask_file e.file) es

stated : List Example → List Asked
stated es = map (λ e. e.expected) es

answered : found examples ≡ stated examples
unfolding examples found stated
answered = refl
