-- Bytes written into an output.
use Rattle.std.specs.Prelude.{ℕ, ◌≡◌, List}
use Rattle.output.specs.Output.{Written}
use Rattle.output.specs.declared.Output.{Output}

-- the bytes xs were written into the buffer of an output, which is the same buffer as before
pub record Writes (xs : List ℕ) (before after : Output) : Type 0 where
  pub bytes : Written xs before.buffer.now before.written after.buffer.now after.written
  pub same : after.buffer.ghost_name ≡ before.buffer.ghost_name
