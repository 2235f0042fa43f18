-- The library compares element by element too.
use Rattle.std.proofs.Common.{◌∙◌}
use Rattle.laws.proofs.Texts.{same-pointwise}
use Rattle.fields.proofs.bytes.same_bytes.Goals as goal

pub returns : goal.returns
returns c = c.eq.ensures ∙ same-pointwise c.args.a.now c.args.b.now
