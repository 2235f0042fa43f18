-- The three bytes stand for what stood there.
use Rattle.std.proofs.Common.{rules}
use Rattle.verdict.proofs.Written.{three-written}
use Rattle.verdict.proofs.sheet.write_cover.Goals as goal

pub returns : goal.returns
returns c = rw c.copy_from_slice.ensures.after (search (three-written, rules))
