-- There is room for all calls, and what is listed of them is the entry.
use Rattle.std.proofs.Common.{rules}
use Rattle.walking.specs.Walking.{is_payout, is_debit}
use Rattle.entries.proofs.Reading.{calls-all, debits-standing, entry-read}
use Rattle.entries.proofs.entry.read_entry.Goals as goal

pub list_parameters-requires : goal.list_parameters-requires
list_parameters-requires c =
    debits-standing _ _ _ (calls-all _ _ _ c.requires c.list_body-body.result c.list_body-body.ensures.listed _ c.listed-calls.ensures)
    _ _ (c.list_where-backings.ensures.listed is_debit (λ s r p. search rules))

pub returns-clause-read : goal.returns-clause-read
returns-clause-read c =
    entry-read _ _ _ (calls-all _ _ _ c.requires c.list_body-body.result c.list_body-body.ensures.listed _ c.listed-calls.ensures)
    c.list_where-backings.result (c.list_where-backings.ensures.listed is_debit (λ s r p. search rules))
    c.list_where-payouts.result (c.list_where-payouts.ensures.listed is_payout (λ s r p. search rules))
    c.list_parameters.new.places c.list_parameters.ensures _ (search rules) _ (search rules)
