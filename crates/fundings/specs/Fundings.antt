-- The token that funds a map as a number; and the maps of a file that some call funds, listed once, so that a map's token is looked up
-- among them.
use Rattle.std.specs.Prelude.{ℕ, ◌≡◌, Bool, cond, ◌&&◌, eqb, map, drop, find}
use Rattle.std.specs.Option.{option_map_or}
use mathlib.Core.List.{List}
use Rattle.laws.specs.Texts.{same_bytes}
use Rattle.laws.specs.Lists.{any, filter}
use Rattle.fields.specs.Field.{Field, fields, front, part}
use Rattle.fields.specs.Number.{short_number}
use Rattle.model.specs.Model.{entries}
use Rattle.walking.specs.Walking.{peel, ident, exprs}
use Rattle.walking.specs.Table.{placed_at}
use Rattle.tokens.specs.Tokens.{is_inflow, is_credit, is_funding}
use Rattle.tokens.specs.Numbers.{joined, joined_all, tokens_number}
use Rattle.fundings.specs.FundingTokens.{funds}
use Rattle.fundings.specs.declared.ledger.Funding.{Funding}

-- the set of the tokens named by the entries that fund the map
unfoldable pub funding_number : (file m : List ℕ) → ℕ
funding_number file m = joined_all file 0 (map (tokens_number file) (filter (λ p. funds m p.this) (entries (fields file))))

-- Calls that fund some map

-- a credit with a second argument, peeled, `p.amount`, of whatever map
unfoldable pub is_funding_call : Field → Field → Bool
is_funding_call entry f = is_credit f && is_inflow entry (peel (part 2 f))

-- one of some calls of an entry funds the map
unfoldable pub funded_by : Field → List Field → List ℕ → Bool
funded_by entry fs m = any (is_funding m entry) fs

-- Listed maps: each has the short number of its name, the place where a call that funds it names it, and the set of its tokens

-- what is listed is the map
unfoldable pub is_map : (file m : List ℕ) → Funding → Bool
is_map file m f = eqb f.number (short_number m) && same_bytes (ident (front (drop f.place file))) m

-- the map's set; an empty one, where it is not listed
unfoldable pub number_of_map : (file m : List ℕ) → List Funding → ℕ
number_of_map file m fs = option_map_or (λ f. f.tokens) (find (is_map file m) fs) 0

-- a set with a further one, where the map is funded
abbrev pub joined_if : List ℕ → Bool → (set further : ℕ) → ℕ
joined_if file funded set further = cond funded (joined file set further) set

-- each map that is funded has got a further set, and any other has the one that it had
abbrev pub Joins : (file : List ℕ) (funded : List ℕ → Bool) (further : ℕ) (old new : List Funding) → Type 0
Joins file funded further old new = (m : List ℕ) → number_of_map file m new ≡ joined_if file (funded m) (number_of_map file m old) further

-- what the entry at a place names is joined to the sets of the maps that it funds
abbrev pub EntryJoins : (file : List ℕ) (place : ℕ) (old new : List Funding) → Type 0
EntryJoins file place old new =
    Joins file (funded_by (front (drop place file)) (exprs (front (drop place file)))) (tokens_number file (placed_at file place)) old new

-- each map has the set of the tokens that fund it
abbrev pub EachMap : (file : List ℕ) → List Funding → Type 0
EachMap file fs = (m : List ℕ) → number_of_map file m fs ≡ funding_number file m
