-- What is left of the text, from the number so far, has the number of the whole text.
use Rattle.std.proofs.Common.{ℕ, ◌+◌, ◌*◌, ◌%◌, ◌≤◌, ◌<◌, ◌≡◌, refl, List, arith, mod-lt, length, get_or, drop, drop_of_length-le}
use Rattle.laws.proofs.Slices.{drop-step}
use Rattle.fields.specs.Number.{number_from, text_number}
use Rattle.fields.proofs.number.text_number.Given as goal

pub record Numbering (s : List ℕ) (base number i : ℕ) : Type 0 where
  pub within : i ≤ length s
  pub small : number < 4294967296
  pub left : number_from base number (drop i s) ≡ text_number base s

pub none : (s : List ℕ) (base : ℕ) → Numbering s base 0 0
none s base = record { within = omega arith; small = omega arith; left = refl }

module _ (s : List ℕ) (base number i : ℕ) (v : Numbering s base number i) where
  pub more : i < length s → (byte : ℕ) → byte ≡ get_or s i 0 → Numbering s base ((number + byte) * base % 4294967296) (i + 1)
  unfolding number_from
  more h byte e =
      record {
        within = omega arith;
        small = mod-lt ((number + byte) * base) (omega arith);
        left = rw e (rw (drop-step s i h) at v.left);
      }

  pub all : length s ≤ i → number ≡ text_number base s
  unfolding number_from
  all h = rw (drop_of_length-le s h) at v.left

  pub all-small : number < 4294967296
  all-small = v.small

abbrev pub invariant-loop-byte : goal.invariant-loop-byte
invariant-loop-byte l = Numbering l.s l.base l.number l.byte-index
