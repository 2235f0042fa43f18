-- The token that funds a map is that of its number, and shows the bytes where the number says that it stands.
use Rattle.std.proofs.Common.{ℕ, ◌≤◌, ◌<◌, ◌≡◌, refl, ◌∙◌, Bool, true, false, cond, List, [], ◌∷◌, length}
use mathlib.Core.List.{flat_map}
use lib.Seq.{take-length}
use Rattle.laws.specs.Lists.{filter}
use Rattle.laws.proofs.Lists.{Every, every-filter}
use Rattle.tags.specs.Tag.{Entry, between}
use Rattle.fields.specs.Field.{Field, Placed, fields, tag, placed, placed_from}
use Rattle.fields.proofs.Inside.{Stands, row-stands}
use Rattle.model.specs.Model.{entries}
use Rattle.walking.specs.Walking.{without_places}
use Rattle.tokens.specs.Tokens.{tokens_named}
use Rattle.tokens.specs.Numbers.{token_of, tokens_number}
use Rattle.tokens.specs.Place.{token_place}
use Rattle.tokens.proofs.Joining.{Means, means-all, means-token, means-small}
use Rattle.tokens.proofs.Numbers.{entry-means}
use Rattle.tokens.proofs.Shown.{Shows, token-shows}
use Rattle.fundings.specs.FundingTokens.{funds, ledger_funding_tokens, funding_token}
use Rattle.fundings.specs.Fundings.{funding_number}

-- the entries of a file stand in it
pub entries-stand : (file : List ℕ) → Every (Stands file) (entries (fields file))
unfolding entries placed_from
entries-stand file =
    every-filter (Stands file) (λ p. between Entry Entry (tag p.this)) (placed 0 (fields file))
    (rw (take-length file) at (row-stands file 0 (length file)))

filter-places : (f : Field → Bool) (ps : List Placed) → without_places (filter (λ p. f p.this) ps) ≡ filter f (without_places ps)
filter-places f [] = refl
filter-places f (p ∷ ps) = go (f p.this) (filter-places f ps)
  where
    go : (k : Bool) → without_places (filter (λ p. f p.this) ps) ≡ filter f (without_places ps) →
        without_places (cond k (p ∷ filter (λ p. f p.this) ps) (filter (λ p. f p.this) ps)) ≡ cond k (p.this ∷ filter f (without_places ps)) (filter f (without_places ps))
    go true e = rw e
    go false e = e

each-without : (g : Field → List (List ℕ)) (ps : List Placed) → flat_map (λ p. g p.this) ps ≡ flat_map g (without_places ps)
unfolding flat_map
each-without g [] = refl
each-without g (p ∷ ps) = rw (each-without g ps)

entries-mean : (file : List ℕ) (ps : List Placed) → Every (Stands file) ps → Every (λ p. Means file (tokens_number file p) (tokens_named p.this)) ps
entries-mean file [] e = tt
entries-mean file (p ∷ ps) e = (entry-means file p e.0, entries-mean file ps e.1)

module _ (file m : List ℕ) where
  -- the number stands for all tokens named by the entries that fund the map
  funding-means : Means file (funding_number file m) (ledger_funding_tokens (fields file) m)
  unfolding funding_number ledger_funding_tokens
  funding-means =
      let es : List Placed = filter (λ p. funds m p.this) (entries (fields file)) in
      rw (← filter-places (funds m) (entries (fields file)), ← each-without tokens_named es)
      (means-all file (tokens_number file) (λ p. tokens_named p.this) 0 [] es refl
      (entries-mean file es (every-filter (Stands file) (λ p. funds m p.this) (entries (fields file)) (entries-stand file))))

  pub funding-token : token_of file (funding_number file m) ≡ funding_token (fields file) m
  unfolding funding_token
  funding-token = means-token file (funding_number file m) (ledger_funding_tokens (fields file) m) funding-means

  -- so a part that reads as what the number stands for is the token, and shows it there
  module _ (k : ℕ) (e : k ≡ funding_number file m) (r : List ℕ) (f : r ≡ token_of file k) where
    pub funding-read : r ≡ funding_token (fields file) m
    funding-read = f ∙ rw e funding-token

    pub funding-there : Shows file (token_place file (funding_number file m)) r
    funding-there = token-shows file k r f (funding_number file m) e

  -- and a number of a file that passes question 1 is small, since it stands for tokens of the file
  pub funding-small : length file ≤ 32768 → (k : ℕ) → k ≡ funding_number file m → k < 65536
  funding-small h k e = means-small file h k (ledger_funding_tokens (fields file) m) (rw e funding-means)
