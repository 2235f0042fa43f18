-- The tokens and the amounts that payouts ask for: those that stand in the file at the places of a table.
use Rattle.std.specs.Prelude.{ℕ, List, get_or, drop}
use Rattle.fields.specs.Field.{Field, front}
use Rattle.walking.specs.Walking.{peel}
use Rattle.guards.specs.Payouts.{payout_token, payout_amount}

-- the token of the payout at the k-th place of the table
unfoldable pub asked_token : (file asked : List ℕ) → ℕ → List ℕ
asked_token file asked k = payout_token (front (drop (get_or asked k 0) file))

-- the amount, peeled, of the payout at a place of the file
unfoldable pub paid_at : List ℕ → ℕ → Field
paid_at file n = peel (payout_amount (front (drop n file)))

-- at the k-th place of the table
unfoldable pub asked_amount : (file asked : List ℕ) → ℕ → Field
asked_amount file asked k = paid_at file (get_or asked k 0)
