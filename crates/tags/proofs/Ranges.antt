-- A range of one tag is that tag.
use Rattle.std.proofs.Common.{ℕ, ◌≡◌, arith, eqb}
use Rattle.std.proofs.lemmas.Bool.Decides.{nat_tests}
use Rattle.tags.specs.Tag.{between}

pub between-one : (k t : ℕ) → between k k t ≡ eqb t k
between-one k t = grind (arith, nat_tests)
