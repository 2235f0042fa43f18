-- Backing number i, as the code reads it, is the i-th of the entry's backings: the debits stand in the table in walk order, and
-- the asset parameters behind them.
use Rattle.std.proofs.Common.{ℕ, ◌+◌, ◌-◌, ◌<◌, ◌≡◌, refl, sym, ap, ◌∙◌, Bool, true, false, List, [], arith, ltb-true, ltb-false, ltb, length, get_or, take, drop, length-append}
use Rattle.std.proofs.Common.{get_or-append-add, get_or-take}
use lib.ListN.{length-map, get_or-append, get_or-map}
use Rattle.laws.specs.Lists.{numbered}
use Rattle.laws.proofs.Numbered.{numbered-length, numbered-at}
use Rattle.fields.specs.Table.{fields_at}
use Rattle.fields.specs.Field.{Field, Fields, fields, front, part, nothing}
use Rattle.walking.specs.Walking.{peel, receiver, asset_params, debits}
use Rattle.equality.specs.Amount.{amount_of}
use Rattle.tokens.specs.Tokens.{admitted_inflow_token}
use Rattle.fundings.specs.FundingTokens.{funding_token}
use Rattle.entries.specs.declared.entry.Entry.{Entry}
use Rattle.entries.specs.Entered.{Entered, entry_of}
use Rattle.backings.specs.Tables.{debit_at, amount_in, token_at}
use Rattle.matching.specs.Matching.{Backing, debit_backings, parameter_backings, backings}
use Rattle.matching.specs.Matching.Source.{debit, parameter}
use Rattle.matching.specs.Standing.{backings_of, backing_at}

-- no backing
abbrev pub no_backing : Backing
no_backing = record { source = debit; index = 0; amount = nothing; token = [] }

-- one debit and one parameter, with its number
abbrev of_debit : Fields → ℕ × Field → Backing
of_debit model x = record { source = debit; index = x.0; amount = peel (part 2 x.1); token = funding_token model (receiver x.1) }

abbrev of_parameter : Field → ℕ × List ℕ → Backing
of_parameter entry x = record { source = parameter; index = x.0; amount = amount_of x.1; token = admitted_inflow_token entry }

module _ (file : List ℕ) (en : Entry) (t : Entered file en) where
  debits-many : length (debit_backings (fields file) (entry_of file en.place)) ≡ en.debits
  unfolding debit_backings
  debits-many =
      length-map (numbered 0 (debits (entry_of file en.place))) (of_debit (fields file))
      ∙ numbered-length 0 (debits (entry_of file en.place)) ∙ sym t.counted

  parameters-many : length (parameter_backings (entry_of file en.place)) ≡ length (asset_params (entry_of file en.place))
  unfolding parameter_backings
  parameters-many =
      length-map (numbered 0 (asset_params (entry_of file en.place))) (of_parameter (entry_of file en.place))
      ∙ numbered-length 0 (asset_params (entry_of file en.place))

  pub backings-many : length (backings_of file en.place) ≡ en.total
  unfolding backings
  backings-many =
      length-append (debit_backings (fields file) (entry_of file en.place)) (parameter_backings (entry_of file en.place))
      ∙ rw (debits-many, parameters-many) (sym t.all)

  module _ (i : ℕ) where
    debit-is : i < en.debits → get_or (debits (entry_of file en.place)) i (front (drop 0 file)) ≡ debit_at file en.backed i
    unfolding fields_at
    debit-is h =
        rw (← t.listed) (get_or-map (λ k. front (drop k file)) (take en.debits en.backed) i 0)
        ∙ ap (λ k. front (drop k file)) (get_or-take en.debits en.backed i 0 h)

    debit-at : i < en.debits → get_or (debit_backings (fields file) (entry_of file en.place)) i no_backing ≡ of_debit (fields file) (i, debit_at file en.backed i)
    unfolding debit_backings
    debit-at h =
        numbered-at (of_debit (fields file)) (debits (entry_of file en.place)) i no_backing (front (drop 0 file)) (omega (arith, t.counted, h))
        ∙ ap (λ d. of_debit (fields file) (i, d)) (debit-is h)

    parameter-at : i < length (asset_params (entry_of file en.place)) →
        get_or (parameter_backings (entry_of file en.place)) i no_backing ≡ of_parameter (entry_of file en.place) (i, get_or (asset_params (entry_of file en.place)) i [])
    unfolding parameter_backings
    parameter-at h = numbered-at (of_parameter (entry_of file en.place)) (asset_params (entry_of file en.place)) i no_backing [] h

  pub backing-is : (i : ℕ) → i < en.total → get_or (backings_of file en.place) i no_backing ≡ backing_at file en i
  unfolding backings backing_at amount_in token_at
  backing-is i h = go (ltb i en.debits) refl
    where
      ds : List Backing
      ds = debit_backings (fields file) (entry_of file en.place)

      ps : List Backing
      ps = parameter_backings (entry_of file en.place)

      go : (b : Bool) → ltb i en.debits ≡ b → get_or (backings_of file en.place) i no_backing ≡ backing_at file en i
      go true e =
          rw e (get_or-append ds ps no_backing i (omega (arith, debits-many, ltb-true i en.debits e)) ∙ debit-at i (ltb-true i en.debits e))
      go false e =
          let l = ltb-false i en.debits e in
          let k : i ≡ length ds + (i - en.debits) = omega (arith, debits-many, l) in
          rw (e, t.named i h l) (
          ap (λ j. get_or (backings_of file en.place) j no_backing) k
          ∙ get_or-append-add ds ps (i - en.debits) no_backing
          ∙ parameter-at (i - en.debits) (omega (arith, t.all, h, l))
          )
