use Rattle.fields.proofs.Parts.{tag-front}
use Rattle.fields.proofs.field.Field.tag.Goals as goal

pub returns : goal.returns
returns c = tag-front c.args.self.now.part.now _ c.args.self.now.there c.front_tag.ensures
