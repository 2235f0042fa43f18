-- Which backings of an entry the numbers of the code stand for, and which marks of the pass its marks.
use Rattle.std.specs.Prelude.{ℕ, ◌-◌, ◌≡◌, Bool, cond, List, map, reverse, ltb, length}
use Rattle.laws.specs.Lists.{any}
use Rattle.laws.specs.Numbers.{chosen_by}
use Rattle.fields.specs.Field.{Field, fields}
use Rattle.entries.specs.declared.entry.Entry.{Entry}
use Rattle.backings.specs.Marked.{free_at, taken_at, used_of}
use Rattle.entries.specs.Entered.{entry_of}
use Rattle.backings.specs.Tables.{amount_in, token_at}
use Rattle.backings.specs.declared.marks.Marks.{Marks as Coded}
use Rattle.matching.specs.Matching.{Backing, Marks, backings}
use Rattle.matching.specs.Matching.Source.{debit, parameter}

-- the backings of the entry that stands at a place of the file
abbrev pub backings_of : List ℕ → ℕ → List Backing
backings_of file place = backings (fields file) (entry_of file place)

-- backing number i, with its index among debits or asset parameters
unfoldable pub backing_at : List ℕ → Entry → ℕ → Backing
backing_at file e i =
    record {
      source = cond (ltb i e.debits) debit parameter;
      index = cond (ltb i e.debits) i (i - e.debits);
      amount = amount_in file e i;
      token = token_at file e i;
    }

-- the amounts of backings
abbrev pub amounts : List Backing → List Field
amounts bs = map (λ b. b.amount) bs

-- the free backings in order, the amounts of the others, and the reserves that are used, the last first
unfoldable pub marks_of : List Backing → Coded → Marks
marks_of bs m =
    record { free = chosen_by (free_at m) bs; taken = amounts (chosen_by (taken_at m) bs); used = reverse (used_of m) }

-- the marks of the pass are those that the code's stand for; its taken amounts stand in the order in which they were taken,
-- which makes no difference to a search
pub record Stands (bs : List Backing) (m : Coded) (s : Marks) : Type 0 where
  pub free : s.free ≡ (marks_of bs m).free
  pub taken : (test : Field → Bool) → any test s.taken ≡ any test (marks_of bs m).taken
  pub used : s.used ≡ (marks_of bs m).used
  pub room : length m.used ≡ 64
