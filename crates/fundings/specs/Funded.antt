-- What is the same for all entries of a file: the maps that some call funds, and what is remembered of each state field.
use Rattle.std.specs.Prelude.{ℕ, ◌≡◌, cond, Option, None, Some, eqb, get_or}
use Rattle.fundings.specs.Remembered.{not_yet}
use Rattle.fundings.specs.declared.facts.Facts.{Facts}

-- what is remembered of the i-th state field; past the last, nothing
unfoldable pub remembered_at : Facts → ℕ → Option ℕ
remembered_at facts i = cond (eqb (get_or facts.held i not_yet) not_yet) None (Some (get_or facts.held i not_yet))

-- the facts after the maps were listed: they are of the same file, and what they say of state fields is kept
pub record Relisted (facts last : Facts) : Type 0 where
  pub file : last.file ≡ facts.file
  pub kept : (i : ℕ) → remembered_at last i ≡ remembered_at facts i
