-- Questions 1 to 8, about the file.
use Rattle.std.specs.Prelude.{ℕ, suc, ◌+◌, Bool, true, false, cond, ◌&&◌, ◌||◌, not, List, [], ◌∷◌, ◌++◌, leb, length, drop}
use Rattle.std.specs.Prelude.{None, Some}
use Rattle.laws.specs.Lists.{any, all}
use Rattle.laws.specs.Texts.{same_bytes, known}
use Rattle.tags.specs.Tag.{between, is_expression, is_text}
use Rattle.fields.specs.Field.{Field, Fields, Placed, fields, tag, size}
use Rattle.fields.specs.Field.Field.{field}
use Rattle.fields.specs.Field.Fields.{end, next}
use Rattle.model.specs.Model.{states, entries, name_of}
use Rattle.grammar.specs.Grammar.{slots_of, advance, complete}

-- the answer to a run of questions: all pass, or the first "no", with its number and place
pub data Asked : Type 0 where
  passes : Asked
  fails : (number place : ℕ) → Asked

-- the questions of a, then those of b
infixr 25 ◌and_then◌
abbrev pub ◌and_then◌ : Asked → Asked → Asked
passes and_then b = b
fails n p and_then b = fails n p

-- a question: "no" has a number and a place
abbrev pub ask : Bool → (number place : ℕ) → Asked
ask true n p = passes
ask false n p = fails n p

-- question 5: text bytes are 20 to 7E, and 20, 21 and 33 are not empty; an empty field holds nothing
unfoldable pub content_allowed : ℕ → List ℕ → Bool
content_allowed t x = cond (is_text t) (all (between 0x20 0x7E) x && (known x || between 0x30 0x32 t)) (not (known x))

-- the depth of an expression inside a field with tag t: one more in an expression, 1 in a statement, clause or default
abbrev pub depth_inside : ℕ → ℕ → ℕ
depth_inside t depth = cond (is_expression t) (suc depth) 1

unfoldable mutual
  -- questions 4 and 5 of a field, then its parts; `depth` is that of an expression which stands here
  pub ask_field : (depth place : ℕ) → Field → Asked
  ask_field depth place (field t x ps) =
      ask (not (is_expression t) || leb depth 32) 4 place
      and_then ask (content_allowed t x) 5 place
      and_then ask_fields (slots_of t) place (depth_inside t depth) (place + 3) ps

  -- questions 2 and 3 of each field in a row, and 6 behind the last: the place of 6 is the outer field's
  pub ask_fields : (slots : List ℕ) → (outer depth place : ℕ) → Fields → Asked
  ask_fields slots outer depth place (end []) = ask (complete slots) 6 outer
  ask_fields slots outer depth place (end (x ∷ xs)) = fails 2 place
  ask_fields slots outer depth place (next f fs) =
      elim (advance slots (tag f)) [
        | None ↦ fails 3 place
        | Some left ↦ ask_field depth place f and_then ask_fields left outer depth (place + size f) fs
      ]

-- question 7: the first state field whose name an earlier one has
unfoldable pub ask_names : (earlier : List (List ℕ)) → List Placed → Asked
ask_names earlier [] = passes
ask_names earlier (s ∷ ss) =
    ask (not (any (same_bytes (name_of s.this)) earlier)) 7 s.place
    and_then ask_names (earlier ++ name_of s.this ∷ []) ss

-- at most n of them: else the place of the next one
unfoldable pub at_most : (n number : ℕ) → List Placed → Asked
at_most n number ps = elim (drop n ps) [ [] ↦ passes | p ∷ rest ↦ fails number p.place ]

-- questions 1 to 6
unfoldable pub ask_form : List ℕ → Asked
ask_form file = ask (leb (length file) 32768) 1 0 and_then ask_fields (slots_of 0) 0 1 0 (fields file)

-- questions 1 to 8
unfoldable pub ask_file : List ℕ → Asked
ask_file file =
    ask_form file
    and_then ask_names [] (states (fields file))
    and_then at_most 64 8 (entries (fields file))
