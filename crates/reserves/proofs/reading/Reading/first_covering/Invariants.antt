-- The fields of the guards that were passed do not cover, so those that are left decide.
use Rattle.std.proofs.Common.{ℕ, ◌≤◌, ◌<◌, ◌≡◌, List, Option, Some, None}
use Rattle.fields.specs.Field.{Field, front}
use Rattle.fields.specs.declared.field.Field.{Field as Found}
use Rattle.fields.specs.declared.named.Named.{Named}
use Rattle.guards.specs.Bounding.{bounding_from}
use Rattle.reserves.specs.Reading.{file_of, Same}
use Rattle.reserves.specs.Covers.{index_in, first_covering, bytes_left}
use Rattle.reserves.proofs.reading.Reading.first_covering.Given as goal

pub record Trying (file token : List ℕ) (l : List Named) (amount : Field) (guard : Found) (ahead : Option Found) (most : ℕ) : Type 0 where
  pub some : 0 < most
  pub few : most ≤ 64
  pub left : first_covering file token l (bounding_from amount ahead) ≡ first_covering file token l (bounding_from amount (Some guard))

pub none-left : {file token : List ℕ} {l : List Named} {amount : Field} {guard : Found} {ahead : Option Found} {most : ℕ} →
    Trying file token l amount guard ahead most → ahead ≡ None → None ≡ first_covering file token l (bounding_from amount (Some guard))
unfolding first_covering index_in
none-left v e = rw e at v.left

abbrev pub invariant-loop-ahead : goal.invariant-loop-ahead
invariant-loop-ahead l = Same l.fn.self l.self × Trying (file_of l.fn.self) l.token l.lowerings (front l.amount) l.fn.guard l.ahead l.most

abbrev pub decreases-loop-ahead : goal.decreases-loop-ahead
decreases-loop-ahead l = bytes_left l.ahead
