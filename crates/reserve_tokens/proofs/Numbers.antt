-- Each number stands for its token: a guard's comparison stands in the file, a map's number for its funding token, and what raises
-- agree on for the one token of all.
use Rattle.std.proofs.Common.{ℕ, ◌+◌, ◌-◌, ◌≤◌, ◌≡◌, refl, sym, ap, ◌∙◌, Bool, true, false, cond, not, List, [], ◌∷◌, map, arith, le-leb, ne_eqb, eqb, length, drop}
use mathlib.Core.List.{flat_map, map-append}
use Rattle.std.proofs.Common.{Option, None, Some}
use Rattle.laws.specs.Lists.{filter, find}
use Rattle.laws.specs.Texts.{known}
use Rattle.laws.proofs.Lists.{Every, every-filter}
use Rattle.laws.proofs.Truths.{chosen}
use Rattle.tags.specs.Tag.{Guard, Eq, is_wrapper, between}
use Rattle.fields.specs.Field.{Field, Fields, Placed, fields, front, tag, part, parts, nth, placed, placed_from}
use Rattle.fields.proofs.Inside.{Stands, parts-stand}
use Rattle.fields.proofs.Rows.{placed_row}
use Rattle.model.specs.Model.{entries}
use Rattle.walking.specs.Walking.{peel, peel_place, guards, receiver, debits, without_places}
use Rattle.equality.specs.Equality.{expr_eq}
use Rattle.tokens.specs.Tokens.{single, beside_in_asset, is_inflow}
use Rattle.tokens.specs.Numbers.{token_of}
use Rattle.tokens.specs.Place.{token_place}
use Rattle.tokens.proofs.Joining.{token-none}
use Rattle.tokens.proofs.Shown.{Shows, peel-stands, token-shows}
use Rattle.fundings.specs.FundingTokens.{funding_token}
use Rattle.fundings.specs.Fundings.{funding_number}
use Rattle.fundings.proofs.Calls.{first-there}
use Rattle.fundings.proofs.Shown.{entries-stand, funding-token}
use Rattle.raises.specs.Raises.{starts_at_zero, raises}
use Rattle.reserve_tokens.specs.ReserveTokens.{credited, guard_token, guard_tokens, only, debit_token, raise_token, raise_tokens, reserve_token}
use Rattle.reserve_tokens.specs.Reserving.{Found}
use Rattle.reserve_tokens.specs.Numbers.{guard_number, guard_numbers, only_number, debit_number, raise_number, numbers_in, agreed, reserve_number}
use Rattle.reserve_tokens.proofs.Held.{agreed-token, agreed-found, found_none, token-none-of}

module _ (file : List ℕ) where
  -- Guards

  none_of : [] ≡ token_of file 0
  none_of = token-none file 0 (omega arith)

  no-bytes : (x : List ℕ) → known x ≡ false → [] ≡ x
  unfolding known
  no-bytes [] e = refl
  no-bytes (x ∷ xs) e = cc

  -- the expression of a guard, if it is there
  first-stands : (n : ℕ) (fs : Fields) → Every (Stands file) (placed n fs) → known (guard_token (nth 0 fs)) ≡ true → front (drop n file) ≡ nth 0 fs
  unfolding guard_token known peel is_wrapper
  first-stands n fs e h = first-there file n 0 fs (λ z. cc (rw z at h)) e

  comparison-token : (n : ℕ) (f : Field) → front (drop n file) ≡ f → known (guard_token f) ≡ true → token_of file (peel_place (length file) n f + 2) ≡ guard_token f
  unfolding token_of guard_token known
  comparison-token n f e h =
      let z : peel_place (length file) n f + 2 - 2 ≡ peel_place (length file) n f = omega arith in
      rw (le-leb 2 (peel_place (length file) n f + 2) (omega arith), z, peel-stands file n f e) (go (eqb (tag (peel f)) Eq) h)
    where
      go : (k : Bool) → known (cond k (beside_in_asset (peel f)) []) ≡ true → beside_in_asset (peel f) ≡ cond k (beside_in_asset (peel f)) []
      go true h = refl
      go false h = cc

  guard-token : (g : Placed) → Stands file g → token_of file (guard_number file g) ≡ guard_token (part 0 g.this)
  unfolding guard_number
  guard-token g s = go (known (guard_token (part 0 g.this))) refl
    where
      go : (k : Bool) → known (guard_token (part 0 g.this)) ≡ k →
          token_of file (cond k (peel_place (length file) (g.place + 3) (part 0 g.this) + 2) 0) ≡ guard_token (part 0 g.this)
      go true e = comparison-token (g.place + 3) (part 0 g.this) (first-stands (g.place + 3) (parts g.this) (parts-stand file g s) e) e
      go false e = sym none_of ∙ no-bytes (guard_token (part 0 g.this)) e

  -- a guard has a number where it names a token
  guard-named : (g : Placed) → not (eqb (guard_number file g) 0) ≡ known (guard_token (part 0 g.this))
  unfolding guard_number
  guard-named g = go (known (guard_token (part 0 g.this)))
    where
      go : (k : Bool) → not (eqb (cond k (peel_place (length file) (g.place + 3) (part 0 g.this) + 2) 0) 0) ≡ k
      go true = rw (ne_eqb (peel_place (length file) (g.place + 3) (part 0 g.this) + 2) 0 (λ z. omega (arith, z)))
      go false = refl

  abbrev named : List Placed → List ℕ
  named gs = filter (λ k. not (eqb k 0)) (map (guard_number file) gs)

  abbrev tokens : List Placed → List (List ℕ)
  tokens gs = filter known (map guard_token (map (part 0) (without_places gs)))

  guards-tokens : (gs : List Placed) → Every (Stands file) gs → map (token_of file) (named gs) ≡ tokens gs
  guards-tokens [] e = refl
  guards-tokens (g ∷ gs) e = go (known (guard_token (part 0 g.this))) (guard-named g) (guards-tokens gs e.1)
    where
      go : (k : Bool) → not (eqb (guard_number file g) 0) ≡ k →
          map (token_of file) (named gs) ≡ tokens gs →
          map (token_of file) (cond (not (eqb (guard_number file g) 0)) (guard_number file g ∷ named gs) (named gs))
          ≡ cond k (guard_token (part 0 g.this) ∷ tokens gs) (tokens gs)
      go true d h = rw (d, guard-token g e.0, h)
      go false d h = rw (d, h)

  only-token : (ks : List ℕ) → token_of file (only_number ks) ≡ only (map (token_of file) ks)
  unfolding only_number only
  only-token [] = sym none_of
  only-token (k ∷ []) = refl
  only-token (k ∷ l ∷ ls) = sym none_of

  guards-token : (entry : Placed) → Stands file entry → token_of file (only_number (guard_numbers file entry)) ≡ only (guard_tokens entry.this)
  unfolding guard_numbers guard_tokens guards placed_from
  guards-token entry s =
      only-token (guard_numbers file entry)
      ∙ ap only (guards-tokens (placed_from Guard Guard (entry.place + 3) (parts entry.this))
      (every-filter (Stands file) (λ q. between Guard Guard (tag q.this)) (placed (entry.place + 3) (parts entry.this)) (parts-stand file entry s))
      ∙ rw (placed_row Guard Guard (entry.place + 3) (parts entry.this)))

  -- Raises

  raise-token : (entry : Placed) → Stands file entry → (v : Field) → token_of file (raise_number file entry v) ≡ raise_token (fields file) entry.this v
  unfolding raise_number raise_token debit_number debit_token
  raise-token entry s v =
      go (is_inflow entry.this v) (credited entry.this v) (find (λ d. expr_eq (peel (part 2 d)) v) (debits entry.this))
    where
      go : (i j : Bool) (o : Option Field) →
          token_of file (cond i (cond j 0 (only_number (guard_numbers file entry))) (elim o [ None ↦ 0 | Some d ↦ funding_number file (receiver d) ]))
          ≡ cond i (cond j [] (only (guard_tokens entry.this))) (elim o [ None ↦ [] | Some d ↦ funding_token (fields file) (receiver d) ])
      go true true o = sym none_of
      go true false o = guards-token entry s
      go false j None = sym none_of
      go false j (Some d) = funding-token file (receiver d)

  raises-token : (entry : Placed) → Stands file entry → (vs : List Field) →
      map (token_of file) (map (raise_number file entry) vs) ≡ map (raise_token (fields file) entry.this) vs
  raises-token entry s [] = refl
  raises-token entry s (v ∷ vs) = rw (raise-token entry s v, raises-token entry s vs)

  entries-tokens : (r : List ℕ) (es : List Placed) → Every (Stands file) es →
      map (token_of file) (flat_map (numbers_in file r) es) ≡ flat_map (λ e. map (raise_token (fields file) e) (raises r e)) (without_places es)
  unfolding flat_map numbers_in
  entries-tokens r [] e = refl
  entries-tokens r (p ∷ ps) e =
      map-append (token_of file) (numbers_in file r p) (flat_map (numbers_in file r) ps)
      ∙ rw (raises-token p e.0 (raises r p.this), entries-tokens r ps e.1)

  -- State fields

  module _ (r : List ℕ) where
    reserve-token : token_of file (reserve_number file r) ≡ reserve_token (fields file) r
    unfolding reserve_number reserve_token raise_tokens
    reserve-token = go (starts_at_zero (fields file) r)
      where
        all-tokens : token_of file (agreed file 1 (flat_map (numbers_in file r) (entries (fields file)))) ≡ single (raise_tokens (fields file) r)
        all-tokens =
            agreed-token file (flat_map (numbers_in file r) (entries (fields file)))
            ∙ ap single (entries-tokens r (entries (fields file)) (entries-stand file))

        go : (k : Bool) → token_of file (cond k (agreed file 1 (flat_map (numbers_in file r) (entries (fields file)))) 1) ≡ cond k (single (raise_tokens (fields file) r)) []
        go true = all-tokens
        go false = token-none-of file

    -- so a part that reads as what the number stands for is the token, and shows it there
    module _ (k : ℕ) (e : k ≡ reserve_number file r) (t : List ℕ) (f : t ≡ token_of file k) where
      pub reserve-read : t ≡ reserve_token (fields file) r
      reserve-read = f ∙ rw e reserve-token

      pub reserve-there : Shows file (token_place file (reserve_number file r)) t
      reserve-there = token-shows file k t f (reserve_number file r) e

    pub reserve-found : length file ≤ 32768 → Found file (reserve_number file r)
    unfolding reserve_number
    reserve-found h =
        chosen (Found file) (starts_at_zero (fields file) r)
        (agreed-found file h 1 (flat_map (numbers_in file r) (entries (fields file))) (found_none file)) (found_none file)
