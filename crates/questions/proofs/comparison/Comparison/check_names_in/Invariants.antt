-- Each field is asked about with the bytes before it, whose names the table shows, and what is left answers as the whole file does.
use Rattle.questions.proofs.Naming.{Naming}
use Rattle.questions.proofs.comparison.Comparison.check_names_in.Given as goal

abbrev pub invariant-loop-field : goal.invariant-loop-field
invariant-loop-field l = Naming l.file l.initial.table l.table l.field-iterator.rest.now l.self.base l.field-iterator.place l.alarms
