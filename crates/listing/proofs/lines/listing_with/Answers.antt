-- Where the buffer for the records has room for more than was written, all of them are in it, and their text is the listing.
use Rattle.std.proofs.Common.{rules}
use Rattle.listing.proofs.Back.{listing-written, room-left}
use Rattle.listing.proofs.lines.listing_with.Goals as goal

pub returns-then-recorded-clause-enough : goal.returns-then-recorded-clause-enough
returns-then-recorded-clause-enough g c = λ h. absurd (room-left _ _ _ _ c.each_record-recorded.ensures h (search rules))

pub returns-clause-listed : goal.returns-clause-listed
returns-clause-listed g c =
    listing-written _ _ _ _ c.each_record-recorded.ensures (search rules) _ _ c.write_records.ensures _ _ c.new-output.ensures.kept c.new-output.ensures.none (search rules)
