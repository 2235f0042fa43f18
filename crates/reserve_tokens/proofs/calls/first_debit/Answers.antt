-- Of the calls of the amount, the kind is asked.
use Rattle.std.proofs.Common.{rules, tests, drop}
use Rattle.std.proofs.lemmas.Iterator.{YieldsList-from_slice}
use Rattle.std.proofs.lemmas.Iterator.Consumers.{YieldsList-at, YieldsList-from_copied, YieldsList-from_filter}
use Rattle.std.proofs.lemmas.Iterator.Search.{find_from_yields_List}
use Rattle.fields.specs.Field.{front}
use Rattle.walking.specs.Walking.{is_debit}
use Rattle.reserve_tokens.proofs.Called.{of_amount, find-of_amount}
use Rattle.reserve_tokens.proofs.calls.first_debit.Goals as goal

pub returns : goal.returns
returns c =
    let all = YieldsList-from_copied (YieldsList-at c.copied.ensures.source (YieldsList-from_slice c.args.calls.now (search rules))) in
    let found = find_from_yields_List (λ call. is_debit (front (drop call c.args.file.now))) _ _ c.find.result c.find.ensures.ran
    (YieldsList-from_filter _ (of_amount is_debit (front c.args.amount.now) c.args.file.now c.args.calls.now)
    (YieldsList-at c.filter-of_amount.ensures.source all) c.filter-of_amount.ensures.closure (λ x b q k. search (rules, tests)))
    (λ x b q k. search (rules, tests)) in
    find-of_amount is_debit _ _ _ _ found
