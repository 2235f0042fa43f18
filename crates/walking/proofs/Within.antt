-- Places increase along the walk, and stay inside the field that is walked.
use Rattle.std.proofs.Common.{ℕ, ◌+◌, ◌*◌, ◌≤◌, Bool, List, [], ◌∷◌, ◌++◌, arith, add_assoc, length}
use mathlib.Core.List.{flat_map}
use Rattle.laws.specs.Lists.{filter}
use Rattle.laws.proofs.Truths.{chosen}
use Rattle.tags.specs.Tag.{is_expression, is_statement}
use Rattle.fields.specs.Field.{Field, Fields, Placed, tag, parts, size, sizes, placed}
use Rattle.fields.specs.Field.Field.{field}
use Rattle.fields.specs.Field.Fields.{end, next}
use Rattle.fields.proofs.Places.{parts-inside}
use Rattle.walking.specs.Walking.{walk, walk_parts, stmt_exprs, body_exprs}

-- the places increase from `low` on, by three at least, and the three bytes of each head end at `high` or before it
abbrev pub Within : ℕ → ℕ → List Placed → Type 0
Within low high [] = low ≤ high
Within low high (p ∷ ps) = (low ≤ p.place) × Within (p.place + 3) high ps

pub within_wider : (a b c d : ℕ) (ps : List Placed) → a ≤ b → c ≤ d → Within b c ps → Within a d ps
within_wider a b c d [] h k w = omega arith
within_wider a b c d (p ∷ ps) h k w = (omega (arith, w.0), within_wider (p.place + 3) (p.place + 3) c d ps (omega arith) k w.1)

within-append : (a b c : ℕ) (ps qs : List Placed) → Within a b ps → Within b c qs → Within a c (ps ++ qs)
within-append a b c [] qs w v = within_wider a b c c qs w (omega arith) v
within-append a b c (p ∷ ps) qs w v = (w.0, within-append (p.place + 3) b c ps qs w.1 v)

pub within-length : (a b : ℕ) (ps : List Placed) → Within a b ps → a + 3 * length ps ≤ b
within-length a b [] w = omega (arith, w)
within-length a b (p ∷ ps) w = omega (arith, w.0, within-length (p.place + 3) b ps w.1)

-- leaving some out
pub within-filter : (a b : ℕ) (f : Placed → Bool) (ps : List Placed) → Within a b ps → Within a b (filter f ps)
within-filter a b f [] w = w
within-filter a b f (p ∷ ps) w =
    let v = within-filter (p.place + 3) b f ps w.1 in
    chosen (Within a b) (f p) (w.0, v) (within_wider a (p.place + 3) b b (filter f ps) (omega (arith, w.0)) (omega arith) v)

mutual
  unfolding walk size

  pub walk-within : (n : ℕ) (f : Field) → Within n (n + size f) (walk n f)
  walk-within n (field t x ps) =
      chosen (Within n (n + size (field t x ps))) (is_expression t)
      (omega arith, within_wider (n + 3) (n + 3) (n + 3 + sizes ps) _ (walk_parts (n + 3) ps) (omega arith) (omega arith) (parts_within (n + 3) ps))
      (omega arith)

  pub parts_within : (n : ℕ) (fs : Fields) → Within n (n + sizes fs) (walk_parts n fs)
  parts_within n (end r) = omega arith
  parts_within n (next f fs) =
      rw (← add_assoc n (size f) (sizes fs))
      (within-append n (n + size f) _ (walk n f) (walk_parts (n + size f) fs) (walk-within n f) (parts_within (n + size f) fs))

-- the expressions of a statement, and those of a body
pub statement-within : (p : Placed) → Within p.place (p.place + size p.this) (stmt_exprs p)
unfolding stmt_exprs
statement-within p =
    let l = parts-inside p.this in
    chosen (Within p.place (p.place + size p.this)) (is_statement (tag p.this))
    (within_wider p.place (p.place + 3) (p.place + 3 + sizes (parts p.this)) _ (walk_parts (p.place + 3) (parts p.this))
    (omega arith) (omega arith) (parts_within (p.place + 3) (parts p.this)))
    (omega arith)

statements-within : (n : ℕ) (fs : Fields) → Within n (n + sizes fs) (flat_map stmt_exprs (placed n fs))
unfolding flat_map placed sizes
statements-within n (end r) = omega arith
statements-within n (next f fs) =
    rw (← add_assoc n (size f) (sizes fs))
    (within-append n (n + size f) _ (stmt_exprs (record { place = n; this = f })) (flat_map stmt_exprs (placed (n + size f) fs))
    (statement-within (record { place = n; this = f })) (statements-within (n + size f) fs))

pub body-within : (p : Placed) → Within (p.place + 3) (p.place + size p.this) (body_exprs p)
unfolding body_exprs
body-within p =
    let l = parts-inside p.this in
    within_wider _ (p.place + 3) (p.place + 3 + sizes (parts p.this)) _ (flat_map stmt_exprs (placed (p.place + 3) (parts p.this)))
    (omega arith) (omega arith) (statements-within (p.place + 3) (parts p.this))
