-- The backings by number, as the code reads them.
use Rattle.std.proofs.Common.{ℕ, ◌≤◌, ◌<◌, ◌≡◌, Bool, List, lt-ltb, le-ltb, get_or, drop}
use Rattle.fields.specs.Field.{fields, front}
use Rattle.walking.specs.Walking.{receiver}
use Rattle.tokens.specs.Tokens.{differ, admitted_inflow_token}
use Rattle.tokens.specs.Place.{token_place}
use Rattle.tokens.proofs.Shown.{Shows}
use Rattle.fundings.specs.FundingTokens.{funding_token}
use Rattle.fundings.specs.Fundings.{funding_number}
use Rattle.entries.specs.declared.entry.Entry.{Entry}
use Rattle.backings.specs.Tables.{debit_at, token_at}

-- the token of one by number, beside that of the payout
module _ (file : List ℕ) (e : Entry) (i : ℕ) (t u v : List ℕ) (r : Bool) (q : u ≡ v) (k : r ≡ differ t u) where
  pub debit-conflict : i < e.debits → t ≡ funding_token (fields file) (receiver (debit_at file e.backed i)) → r ≡ differ (token_at file e i) v
  unfolding token_at
  debit-conflict h l = rw (lt-ltb i e.debits h, ← l, ← q) k

  pub parameter-conflict : e.debits ≤ i → t ≡ admitted_inflow_token (front (drop e.place file)) → r ≡ differ (token_at file e i) v
  unfolding token_at
  parameter-conflict h l = rw (le-ltb i e.debits h, ← l, ← q) k

-- what is read of a debit at its place in the table is read of it in the file
module _ (file : List ℕ) (e : Entry) (i : ℕ) (d : List ℕ) (g : d ≡ drop (get_or e.backed i 0) file) (m : List ℕ) (j : m ≡ receiver (front d)) (t : List ℕ) where
  pub debit-read : t ≡ funding_token (fields file) m → t ≡ funding_token (fields file) (receiver (debit_at file e.backed i))
  debit-read l = rw (← g, ← j) l

  pub debit-there : Shows file (token_place file (funding_number file m)) t → Shows file (token_place file (funding_number file (receiver (debit_at file e.backed i)))) t
  debit-there l = rw (← g, ← j) l
