-- Of the calls of the amount, the kind is asked.
use Rattle.std.proofs.Common.{rules, tests, drop}
use Rattle.std.proofs.lemmas.Iterator.{YieldsList-from_slice}
use Rattle.std.proofs.lemmas.Iterator.Consumers.{YieldsList-at, YieldsList-from_copied, YieldsList-from_filter}
use Rattle.std.proofs.lemmas.Iterator.Search.{any_from_yields_List}
use Rattle.fields.specs.Field.{front}
use Rattle.tokens.specs.Tokens.{is_credit}
use Rattle.reserve_tokens.proofs.Called.{of_amount, any-of_amount}
use Rattle.reserve_tokens.proofs.calls.is_credited.Goals as goal

pub returns : goal.returns
returns c =
    let all = YieldsList-from_copied (YieldsList-at c.copied.ensures.source (YieldsList-from_slice c.args.calls.now (search rules))) in
    any-of_amount is_credit _ _ _ _
    (any_from_yields_List (λ call. is_credit (front (drop call c.args.file.now))) _ _ _ c.any.ensures.ran
    (YieldsList-from_filter _ (of_amount is_credit (front c.args.amount.now) c.args.file.now c.args.calls.now)
    (YieldsList-at c.filter-of_amount.ensures.source all) c.filter-of_amount.ensures.closure (λ x b q k. search (rules, tests)))
    (λ x b q k. search (rules, tests)))
