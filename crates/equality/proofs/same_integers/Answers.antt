-- Both sides give their bytes other than underscores, and `eq` compares them one by one.
use Rattle.std.proofs.Common.{refl, not, rules, tests}
use Rattle.std.proofs.lemmas.Iterator.{YieldsList-from_slice}
use Rattle.std.proofs.lemmas.Iterator.Consumers.{YieldsList-from_filter, YieldsList-at}
use Rattle.equality.specs.Equality.{is_underscore, strip}
use Rattle.equality.proofs.Integers.{same-items}
use Rattle.equality.proofs.same_integers.Goals as goal

pub returns : goal.returns
unfolding strip
returns c =
    same-items c.filter-2.result _ c.eq.ensures.ran
    (YieldsList-from_filter _ (λ b. not (is_underscore b)) (YieldsList-at c.filter.ensures.source (YieldsList-from_slice c.args.a.now cc)) c.filter.ensures.closure
    (λ x b q k. search (rules, tests)))
    (YieldsList-from_filter _ (λ b. not (is_underscore b)) (YieldsList-at c.filter-2.ensures.source (YieldsList-from_slice c.args.b.now cc)) c.filter-2.ensures.closure
    (λ x b q k. search (rules, tests)))
    (λ x y. refl)
