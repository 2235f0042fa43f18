-- The bytes before this one are written.
use Rattle.output.proofs.Buffer.{writes-none, writes-on, writes-all}
use Rattle.output.proofs.Output.write_text.Goals as goal

pub loop-byte-init : goal.loop-byte-init
loop-byte-init c = writes-none _

pub loop-byte-preserved : goal.loop-byte-preserved
loop-byte-preserved c = search writes-on

pub returns : goal.returns
returns c = search writes-all
