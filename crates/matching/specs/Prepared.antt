-- What the answer for a payout rests on: the file, the payout's entry, and the pass so far.
use Rattle.std.specs.Prelude.{ℕ, ◌<◌, List, get_or, drop}
use Rattle.fields.specs.Field.{Field, front}
use Rattle.entries.specs.Entered.{Entered}
use Rattle.entries.specs.declared.entry.Entry.{Entry}
use Rattle.backings.specs.Marked.{uses}
use Rattle.backings.specs.Tables.{Admitted}
use Rattle.matching.specs.declared.answer.Pass.{Pass}
use Rattle.matching.specs.declared.payout.Payout.{Payout}

-- the k-th payout
abbrev pub payout_at : List ℕ → Entry → ℕ → Field
payout_at file e k = front (drop (get_or e.paid k 0) file)

-- the entry is past questions 10 and 11, what is remembered of the token that it admits is right, and one more reserve finds room
pub record Ready (file : List ℕ) (payout : Payout) (pass : Pass) : Type 0 where
  pub entered : Entered file payout.entry.now
  pub admits : Admitted file payout.entry.now.place pass.admitted
  pub room : uses pass.marks < 64
