-- The fields of a file, one after the other: the set found so far, with what the entries ahead name that fund the map, is the set of all.
use Rattle.std.proofs.Common.{ℕ, ◌≤◌, ◌≡◌, refl, sym, ap, ◌∙◌, Bool, true, false, cond, not, List, ◌∷◌, map, eq-eqb, ne_eqb, length, drop}
use borrow.Author.Tests.{not-true, not-false}
use Rattle.laws.specs.Lists.{filter}
use Rattle.tags.specs.Tag.{Entry, between}
use Rattle.tags.proofs.Ranges.{between-one}
use Rattle.fields.specs.Field.{Placed, whole, front, tag, placed_from}
use Rattle.fields.specs.Row.{shown, left, Step}
use Rattle.fields.specs.declared.field.Fields.{Fields}
use Rattle.fields.specs.declared.field.Field.{Field as Found}
use Rattle.fields.proofs.EndOf.{EndOf, end-all, end-inside, end-there, end-behind}
use Rattle.fields.proofs.InARow.{left-next, placed-end}
use Rattle.model.specs.Model.{entries}
use Rattle.walking.specs.Table.{placed_at}
use Rattle.tokens.specs.Numbers.{joined, joined_all, tokens_number}
use Rattle.tokens.proofs.Joining.{all-several}
use Rattle.fundings.specs.FundingTokens.{funds}
use Rattle.fundings.specs.Fundings.{funding_number}

-- what the code tests
module _ (file m : List ℕ) (n found : ℕ) (b : Bool) (f : b ≡ funds m (front (drop n file))) where
  abbrev pub with_entry : ℕ
  with_entry = cond (funds m (front (drop n file))) (joined file found (tokens_number file (placed_at file n))) found

  pub not-funding : not b ≡ true → found ≡ with_entry
  not-funding h = rw (← f, not-true b h)

  pub funding-too : not b ≡ false → (k : ℕ) → k ≡ tokens_number file (placed_at file n) → (r : ℕ) → r ≡ joined file found k → r ≡ with_entry
  funding-too h k g r q = q ∙ rw (← f, not-false b h, g)

-- what the entries among some fields name, of those that fund the map
abbrev numbers_among : (file m : List ℕ) → List Placed → List ℕ
numbers_among file m ps = map (tokens_number file) (filter (λ p. funds m p.this) (filter (λ p. between Entry Entry (tag p.this)) ps))

-- these fields of the file are left
pub record Ledger (file m : List ℕ) (found : ℕ) (rest : Fields) : Type 0 where
  pub ends : EndOf file rest
  pub ahead : joined_all file found (numbers_among file m (left rest)) ≡ funding_number file m

pub ledger-all : (file m : List ℕ) (it all : Fields) → all ≡ it → it.rest.now ≡ file → it.place ≡ 0 → Ledger file m 0 all
unfolding funding_number entries placed_from
ledger-all file m it all y r z = record { ends = end-all file it all y r z; ahead = rw (y, r, z) }

module _ (file m : List ℕ) (found : ℕ) (rest : Fields) (i : Ledger file m found rest) where
  pub ledger-done : whole rest.rest.now ≡ false → found ≡ funding_number file m
  unfolding joined_all
  ledger-done w = rw (placed-end rest.rest.now w rest.place) at i.ahead

  module _ (f : Found) (behind : Fields) (h : Step rest f behind) where
    pub ledger-inside : f.place ≤ length file
    ledger-inside = end-inside file rest i.ends f behind h

    module _ (g : ℕ) (e : g ≡ tag (front f.part.now)) where
      -- another field is passed over
      pub ledger-past : (g ≡ Entry → ⊥) → Ledger file m found behind
      ledger-past n = record {
        ends = end-behind file rest i.ends f behind h;
        ahead = rw (left-next rest f behind h, ← e, between-one Entry g, ne_eqb g Entry n) at i.ahead;
      }

      module _ (q : g ≡ Entry) (k : ℕ)
          (j : k ≡ cond (funds m (front (drop f.place file))) (joined file found (tokens_number file (placed_at file f.place))) found) where
        abbrev entries_left : List Placed
        entries_left = filter (λ p. between Entry Entry (tag p.this)) (left behind)

        entry-passed : joined_all file k (numbers_among file m (left behind)) ≡ funding_number file m
        unfolding joined_all
        entry-passed = rw (j, end-there file rest i.ends f behind h) (go (funds m (front f.part.now)) refl (rw (left-next rest f behind h, ← e, between-one Entry g, eq-eqb g Entry q) at i.ahead))
          where
            go : (b : Bool) → funds m (front f.part.now) ≡ b →
                joined_all file found (map (tokens_number file) (filter (λ p. funds m p.this) (shown f ∷ entries_left))) ≡ funding_number file m →
                joined_all file (cond b (joined file found (tokens_number file (shown f))) found) (numbers_among file m (left behind)) ≡ funding_number file m
            go true b r = rw b at r
            go false b r = rw b at r

        pub ledger-several : k ≡ 1 → 1 ≡ funding_number file m
        ledger-several o =
            sym (all-several file (numbers_among file m (left behind)))
            ∙ ap (λ n. joined_all file n (numbers_among file m (left behind))) (sym o)
            ∙ entry-passed

        pub ledger-on : Ledger file m k behind
        ledger-on = record { ends = end-behind file rest i.ends f behind h; ahead = entry-passed }
