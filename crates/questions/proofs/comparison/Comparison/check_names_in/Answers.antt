-- Each field is asked about with the bytes before it, whose names the table shows, and what is left answers as the whole file does.
use Rattle.questions.proofs.Naming.{naming-all, naming-done, naming-crowded, naming-new, naming-repeated, naming-alarm}
use Rattle.questions.proofs.comparison.Comparison.check_names_in.Goals as goal

pub loop-field-init : goal.loop-field-init
loop-field-init c = rw c.into_iter-field-iterator.ensures.into_iter_gives (search naming-all)

pub loop-field-preserved-then-not-note_name : goal.loop-field-preserved-then-not-note_name
loop-field-preserved-then-not-note_name c = let h = c.in-Some.ensures.steps in search naming-new

pub returns-then-has_state : goal.returns-then-has_state
returns-then-has_state c = let h = c.in-Some.ensures.steps in search naming-repeated

pub returns-then-alarms-self : goal.returns-then-alarms-self
returns-then-alarms-self c = let h = c.in-Some.ensures.steps in search naming-crowded

pub loop-field-preserved : goal.loop-field-preserved
loop-field-preserved c = let h = c.in-Some.ensures.steps in search naming-alarm

pub returns : goal.returns
returns c = let h = c.in-None.ensures.steps in search naming-done
