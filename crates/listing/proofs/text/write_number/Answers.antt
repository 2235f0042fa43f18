-- One digit, or those of the library.
use Rattle.std.proofs.Common.{rules, ◌∙◌}
use Rattle.listing.proofs.Decimal.{digit-written, number-written}
use Rattle.listing.proofs.text.write_number.Goals as goal

pub returns-then-number-lt10 : goal.returns-then-number-lt10
returns-then-number-lt10 c = search digit-written

pub returns : goal.returns
returns c = number-written _ (search rules) _ (c.as_bytes.ensures.value ∙ c.format.ensures.text) _ _ c.write_text.ensures
