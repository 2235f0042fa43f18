-- The n-th state field stands at its place in the file.
use Rattle.reserves.proofs.Placing.{place-named, place-within, none-named}
use Rattle.reserves.proofs.state.state_place.Goals as goal

pub returns-in-Some-clause-named : goal.returns-in-Some-clause-named
returns-in-Some-clause-named c = search place-named

pub returns-in-Some-clause-within : goal.returns-in-Some-clause-within
returns-in-Some-clause-within c = search place-within

pub returns-in-None-clause-named : goal.returns-in-None-clause-named
returns-in-None-clause-named c = search none-named
