-- The first of the guards that bound the amount whose state field is lowered and holds the token is the first that covers: every field
-- that is tried stands in such a guard, and the amount contains what comes in.
use Rattle.std.proofs.Common.{ℕ, ◌≤◌, ◌≡◌, refl, ap, ◌∙◌, Bool, true, false, ◌&&◌, ◌||◌, List, [], ◌∷◌, map, length, drop}
use mathlib.Core.Bool.{and-false}
use Rattle.std.proofs.Common.{None}
use Rattle.laws.proofs.Texts.{bytes_same}
use Rattle.laws.specs.Texts.{same_bytes, known}
use Rattle.laws.specs.Lists.{any, filter}
use Rattle.laws.proofs.Truths.{or_right}
use Rattle.laws.proofs.Lists.{map-filter, every-weaker, Every}
use Rattle.laws.proofs.Finding.{find_none, find-same}
use Rattle.tags.specs.Tag.{Guard}
use Rattle.fields.specs.Field.{Field, fields, front, parts, part, fields_from}
use Rattle.model.specs.Model.{state_names, body}
use Rattle.walking.specs.Walking.{guards}
use Rattle.walking.specs.Table.{placed_at}
use Rattle.equality.specs.Equality.{expr_eq}
use Rattle.reserve_tokens.specs.ReserveTokens.{reserve_token}
use Rattle.guards.specs.Guards.{contains_inflow, guarded_field, guarded_amount, guarded_by, lowers}
use Rattle.guards.specs.Bounding.{bounds, bounding}
use Rattle.guards.specs.Lowerings.{lowering_numbers}
use Rattle.guards.specs.Asked.{asked_token, asked_amount}
use Rattle.guards.proofs.Lowerings.{lowerings-decide}
use Rattle.reserves.specs.Reserves.{reserve_covers, reserve_bounding_payout}
use Rattle.reserves.specs.Holding.{is_token}
use Rattle.reserves.specs.Covers.{index_in, asked_reserve, field_covers, first_covering}

-- The field of a guard stands among those of all

each-among : (l : List (List ℕ)) → Every (λ r. any (same_bytes r) l ≡ true) l
each-among [] = tt
each-among (x ∷ l) = (
  rw (bytes_same x),
  every-weaker (λ r. any (same_bytes r) l ≡ true) (λ r. same_bytes r x || any (same_bytes r) l ≡ true) (λ r e. or_right (same_bytes r x) _ e) l (each-among l),
)

bounding-fields : (entry amount : Field) → map (λ g. guarded_field (part 0 g)) (bounding amount (parts entry)) ≡ guarded_by entry amount
unfolding bounding bounds guarded_by guards
bounding-fields entry amount =
    map-map (filter (λ g. expr_eq (guarded_amount (part 0 g)) amount) (fields_from Guard Guard (parts entry)))
    ∙ ap (map guarded_field) (map-filter (part 0) (λ g. expr_eq (guarded_amount g) amount) (fields_from Guard Guard (parts entry)))
  where
    map-map : (l : List Field) → map (λ g. guarded_field (part 0 g)) l ≡ map guarded_field (map (part 0) l)
    map-map [] = refl
    map-map (g ∷ l) = ap (λ m. guarded_field (part 0 g) ∷ m) (map-map l)

regrouped : (l s t u : Bool) → l && s && (t && u) ≡ true && s && true && l && t && u
regrouped true true t u = refl
regrouped true false t u = refl
regrouped false true t u = refl
regrouped false false t u = refl

-- The k-th payout of the entry at a place of the file

module _ (file : List ℕ) (place : ℕ) (asked : List ℕ) (k : ℕ) where
  abbrev entry : Field
  entry = front (drop place file)

  abbrev amount : Field
  amount = asked_amount file asked k

  abbrev token : List ℕ
  token = asked_token file asked k

  abbrev covering : List ℕ → Bool
  covering r = reserve_covers (fields file) entry amount token r

  none-covers : ((r : List ℕ) → covering r ≡ false) → None ≡ asked_reserve file place asked k
  unfolding reserve_bounding_payout index_in
  none-covers h = rw (find_none covering h (guarded_by entry amount))

  pub none-contained : contains_inflow entry amount ≡ false → None ≡ asked_reserve file place asked k
  unfolding reserve_covers
  none-contained i = none-covers (λ r. rw i)

  pub unknown-token : known token ≡ false → None ≡ asked_reserve file place asked k
  unfolding reserve_covers
  unknown-token u =
      none-covers (λ r. rw (
        u,
        and-false (contains_inflow entry amount && any (same_bytes r) (state_names (fields file)) && any (same_bytes r) (guarded_by entry amount)
            && any (lowers amount r) (body entry)),
      ))

  pub no-guard : bounding amount (parts entry) ≡ [] → None ≡ asked_reserve file place asked k
  unfolding reserve_bounding_payout index_in
  no-guard e = rw (← bounding-fields entry amount, e)

  pub all-contained : length file ≤ 32768 → contains_inflow entry amount ≡ true →
      first_covering file token (lowering_numbers amount (placed_at file place)) (bounding amount (parts entry)) ≡ asked_reserve file place asked k
  unfolding first_covering reserve_bounding_payout reserve_covers field_covers is_token
  all-contained small inflow =
      rw (bounding-fields entry amount)
      (ap (index_in (fields file))
      (find-same (field_covers file token (lowering_numbers amount (placed_at file place))) covering (guarded_by entry amount)
      (every-weaker (λ r. any (same_bytes r) (guarded_by entry amount) ≡ true)
      (λ r. field_covers file token (lowering_numbers amount (placed_at file place)) r ≡ covering r) same-tests
      (guarded_by entry amount) (each-among (guarded_by entry amount)))))
    where
      same-tests : (r : List ℕ) → any (same_bytes r) (guarded_by entry amount) ≡ true →
          field_covers file token (lowering_numbers amount (placed_at file place)) r ≡ covering r
      same-tests r a =
          rw (inflow, a, lowerings-decide amount file place r)
          (regrouped (any (lowers amount r) (body entry)) (any (same_bytes r) (state_names (fields file)))
          (known token) (same_bytes (reserve_token (fields file) r) token))
