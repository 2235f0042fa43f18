-- Test by test, as the definition asks.
use Rattle.std.proofs.Common.{◌≡◌, Bool, ◌&&◌, List, ℕ, eqb}
use Rattle.laws.specs.Texts.{bytes, same_bytes}
use Rattle.tags.specs.Tag.{Identifier, Caller}
use Rattle.fields.specs.Field.{front, tag, part}
use Rattle.walking.specs.Walking.{present, method, is_debit}
use Rattle.walking.proofs.shape.is_debit.Goals as goal

-- the method's name; the receiver, and its tag; the key, and its tag; the amount
module _ (s name callee base key amount : List ℕ) (called there : Bool) (t u : ℕ) where
  debit-read : name ≡ method (front s) → called ≡ same_bytes name (bytes "debit") →
      front callee ≡ part 0 (front s) → front base ≡ part 0 (front callee) → t ≡ tag (front base) →
      front key ≡ part 1 (front s) → u ≡ tag (front key) →
      front amount ≡ part 2 (front s) → there ≡ present (front amount) →
      called && eqb t Identifier && eqb u Caller && there ≡ is_debit (front s)
  unfolding is_debit
  debit-read a b c d e f g h i = rw (← a, b, ← c, ← d, ← e, ← f, ← g, ← h, i)

pub returns : goal.returns
returns c = search debit-read
