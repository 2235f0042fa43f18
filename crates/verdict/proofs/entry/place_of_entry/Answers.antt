-- The entry is found, or there is none.
use Rattle.std.proofs.Common.{◌≡◌, ◌∙◌, rules}
use Rattle.std.specs.Option.{option_map}
use Rattle.verdict.proofs.Asking.{place-got, place-inside}
use Rattle.verdict.proofs.entry.place_of_entry.Goals as goal

pub returns-clause-place : goal.returns-clause-place
returns-clause-place c =
    let found : c.map.result ≡ option_map (λ p. p.place) c.nth_entry.result = search rules in
    found ∙ place-got c.args.file.now c.args.n c.nth_entry.result c.nth_entry.ensures.found

pub returns-clause-inside : goal.returns-clause-inside
returns-clause-inside c =
    let found : c.map.result ≡ option_map (λ p. p.place) c.nth_entry.result = search rules in
    rw found (place-inside c.args.file.now c.args.n c.nth_entry.result c.nth_entry.ensures.found)
