-- The listing of a file: what the program `payouts` prints. All numbers are decimal; entries, payouts and indexes count from 0.
use Rattle.std.specs.Prelude.{ℕ, length}
use mathlib.Core.List.{List, [], ◌∷◌, ◌++◌, flat_map}
use Rattle.laws.specs.Lists.{numbered}
use Rattle.laws.specs.Texts.{bytes}
use Rattle.fields.specs.Field.{Fields, fields}
use Rattle.model.specs.Model.{entries}
use Rattle.questions.specs.Questions.{passes, fails, ask_file}
use Rattle.matching.specs.Matching.{Cover}
use Rattle.claim.specs.Verdict.{refused, rejected, accepted, entry_at, entry_verdict, kind, index, spare}
use Rattle.contract.specs.Records.{below, covers_enough}
use Rattle.listing.specs.Decimal.{decimal}

-- a line: words with a space between them, and a line feed at the end
abbrev pub line : List ℕ → List (List ℕ) → List ℕ
line word [] = word ++ 0x0A ∷ []
line word (w ∷ ws) = word ++ 0x20 ∷ line w ws

-- `r number place`
unfoldable pub refusal_line : (number place : ℕ) → List ℕ
refusal_line number place = line (bytes "r") (decimal number ∷ decimal place ∷ [])

-- `e number ok payouts spare`
unfoldable pub accepted_line : (number payouts spare : ℕ) → List ℕ
accepted_line number payouts rest = line (bytes "e") (decimal number ∷ bytes "ok" ∷ decimal payouts ∷ decimal rest ∷ [])

-- `e number no payout`
unfoldable pub rejected_line : (number payout : ℕ) → List ℕ
rejected_line number payout = line (bytes "e") (decimal number ∷ bytes "no" ∷ decimal payout ∷ [])

-- `p number kind index` for each payout
unfoldable pub cover_line : ℕ × Cover → List ℕ
cover_line (number, c) = line (bytes "p") (decimal number ∷ decimal (kind c) ∷ decimal (index c) ∷ [])

-- the lines of an entry
unfoldable pub entry_lines : Fields → ℕ → List ℕ
entry_lines model n =
    elim (entry_verdict model n covers_enough) [
      | refused number place ↦ refusal_line number place
      | rejected payout reason ↦ rejected_line n payout
      | accepted cs ↦ accepted_line n (length cs) (spare (entry_at model n).this) ++ flat_map cover_line (numbered 0 cs)
    ]

-- a refusal of questions 1 to 8 is one line; else each entry has its lines
unfoldable pub listing : List ℕ → List ℕ
listing file =
    elim (ask_file file) [
      | fails number place ↦ refusal_line number place
      | passes ↦ flat_map (entry_lines (fields file)) (below (length (entries (fields file))))
    ]
