-- Test by test, as the definition asks.
use Rattle.std.proofs.Common.{◌≡◌, Bool, ◌&&◌, List, ℕ, eqb}
use Rattle.laws.specs.Texts.{bytes, same_bytes}
use Rattle.tags.specs.Tag.{Call}
use Rattle.fields.specs.Field.{front, tag, part}
use Rattle.walking.specs.Walking.{present, ident, is_payout}
use Rattle.walking.proofs.shape.is_payout.Goals as goal

-- the tag; the callee, and its name; the value
module _ (s callee name value : List ℕ) (called there : Bool) (t : ℕ) where
  payout-read : t ≡ tag (front s) →
      front callee ≡ part 0 (front s) → name ≡ ident (front callee) → called ≡ same_bytes name (bytes "send_asset") →
      front value ≡ part 3 (front s) → there ≡ present (front value) →
      eqb t Call && called && there ≡ is_payout (front s)
  unfolding is_payout
  payout-read a b c d e f = rw (← a, ← b, ← c, d, ← e, f)

pub returns : goal.returns
returns c = search payout-read
