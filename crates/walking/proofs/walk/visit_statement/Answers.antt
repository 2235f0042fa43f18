-- Of a statement its parts are listed, and of any other field nothing.
use Rattle.walking.proofs.Visits.{no-statement, statement-parts}
use Rattle.walking.proofs.walk.visit_statement.Goals as goal

pub returns-then-is_statement : goal.returns-then-is_statement
returns-then-is_statement c = search statement-parts

pub returns-else-is_statement : goal.returns-else-is_statement
returns-else-is_statement c = search no-statement
