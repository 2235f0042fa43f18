-- The chunk is the beginning of the text.
use Rattle.std.proofs.Common.{rules}
use Rattle.std.specs.Int.{w32}
use Rattle.fields.proofs.Words.{word_there, word_none}
use Rattle.fields.proofs.bytes.front_quad.Goals as goal

pub returns-in-Some : goal.returns-in-Some
returns-in-Some c = search (word_there w32 4, rules)

pub returns-in-None : goal.returns-in-None
returns-in-None c = search (word_none w32 4, rules)
