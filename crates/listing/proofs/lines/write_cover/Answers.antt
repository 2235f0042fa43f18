-- The three bytes of the cover are its kind and its index.
use Rattle.std.proofs.Common.{rules, ◌∙◌}
use Rattle.listing.proofs.Covers.{cover-read}
use Rattle.listing.proofs.lines.write_cover.Goals as goal

pub returns : goal.returns
returns c =
    cover-read c.args.covers.now c.args.number _ _ _ _ (c.from-kind.ensures ∙ c.byte_at.ensures) (c.from-index.ensures ∙ c.from_be_bytes.ensures)
    c.byte_at-2.ensures c.byte_at-3.ensures _ _ (search rules)
