-- What the check of a field needs: places stay below 65,536, and the depth is at most one past the limit.
use Rattle.std.specs.Prelude.{ℕ, ◌+◌, ◌≤◌, ◌<◌, List, length}

pub record Room (content : List ℕ) (start depth : ℕ) : Type 0 where
  pub places : start + length content < 65536
  pub depths : depth ≤ 33
