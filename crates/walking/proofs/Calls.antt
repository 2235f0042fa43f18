-- Debits and payouts are calls: a table of the calls of a body has them all.
use Rattle.std.proofs.Common.{◌≡◌, refl, sym, Bool, true, false, eqb}
use Rattle.laws.specs.Lists.{filter}
use Rattle.laws.specs.Texts.{same_bytes}
use Rattle.laws.proofs.Lists.{filter-first}
use Rattle.tags.specs.Tag.{Call}
use Rattle.fields.specs.Field.{Field, tag}
use Rattle.walking.specs.Walking.{method, is_debit, is_payout, exprs, debits, payouts}

abbrev pub is_call : Field → Bool
is_call f = eqb (tag f) Call

-- the tests of a payout and of a debit begin with that of a call
pub payout-call : (f : Field) → is_payout f ≡ true → is_call f ≡ true
unfolding is_payout
payout-call f h = go (is_call f) refl
  where
    go : (k : Bool) → is_call f ≡ k → is_call f ≡ true
    go true e = e
    go false e = cc

pub debit-call : (f : Field) → is_debit f ≡ true → is_call f ≡ true
unfolding is_debit method same_bytes
debit-call f h = go (is_call f) refl
  where
    go : (k : Bool) → is_call f ≡ k → is_call f ≡ true
    go true e = e
    go false e = cc

pub payouts-called : (entry : Field) → payouts entry ≡ filter is_payout (filter is_call (exprs entry))
unfolding payouts
payouts-called entry = sym (filter-first is_payout is_call payout-call (exprs entry))

pub debits-called : (entry : Field) → debits entry ≡ filter is_debit (filter is_call (exprs entry))
unfolding debits
debits-called entry = sym (filter-first is_debit is_call debit-call (exprs entry))
