-- Clause by clause or guard by guard, and in each condition by condition, the set found so far and what is left have the number
-- of all.
use Rattle.std.proofs.Common.{map}
use Rattle.walking.specs.Table.{placed_at}
use Rattle.tokens.specs.Numbers.{joined_from, joined_all}
use Rattle.tokens.proofs.Numbers.{Joining, mark_number}
use Rattle.tokens.proofs.Searching.{Searching}
use Rattle.tokens.proofs.number.joined_from.Given as goal

abbrev pub invariant-search : goal.invariant-search
invariant-search l =
    Searching l.entry.file.now l.entry.place l.low l.high l.part-iterator l.found (joined_from l.entry.file.now l.low l.high (placed_at l.entry.file.now l.entry.place) l.before)

abbrev pub invariant-loop-mark : goal.invariant-loop-mark
invariant-loop-mark l =
    Joining (mark_number l.this l.entry.place) l.entry.file.now l.mark-items (joined_all l.entry.file.now l.initial.found (map (mark_number l.this l.entry.place) l.mark-items)) l.mark-index l.found
