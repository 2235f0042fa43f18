-- Fewer than three bytes hold no head, so the first test only spares the reading of one.
use Rattle.std.proofs.Common.{◌≡◌, sym, false, List, ℕ, ◌+◌, ◌<◌, arith, leb, length}
use borrow.Author.Tests.{lt-leb}
use Rattle.fields.specs.Field.{whole, length_of}
use Rattle.fields.proofs.front.is_whole.Goals as goal

no-head : (s : List ℕ) → length s < 3 → false ≡ whole s
no-head s h = sym (lt-leb (3 + length_of s) (length s) (omega arith))

whole-read : (s : List ℕ) (n : ℕ) → n ≡ length_of s → leb (3 + n) (length s) ≡ whole s
whole-read s n e = rw e

pub returns-then-s-lt3 : goal.returns-then-s-lt3
returns-then-s-lt3 c = search no-head

pub returns : goal.returns
returns c = search whole-read
