-- The text of a field is a name exactly where its tag is that of an identifier.
use Rattle.std.proofs.Common.{◌≡◌, List, [], ℕ, eq-eqb, ne_eqb, length, take, drop}
use Rattle.tags.specs.Tag.{Identifier}
use Rattle.fields.specs.Field.{front, tag, text}
use Rattle.walking.specs.Walking.{ident}
use Rattle.walking.proofs.shape.ident.Goals as goal

module _ (s : List ℕ) (t : ℕ) (e : t ≡ tag (front s)) where
  module _ (h : t ≡ Identifier) (x : List ℕ) where
    named : x ≡ text (front s) → x ≡ ident (front s)
    unfolding ident
    named f = rw (← e, eq-eqb _ _ h) f

    named-shown : x ≡ take (length (text (front s))) (drop 3 s) → x ≡ take (length (ident (front s))) (drop 3 s)
    unfolding ident
    named-shown f = rw (← e, eq-eqb _ _ h) f

  module _ (h : t ≡ Identifier → ⊥) where
    unnamed : [] ≡ ident (front s)
    unfolding ident
    unnamed = rw (← e, ne_eqb _ _ h)

    unnamed-shown : [] ≡ take (length (ident (front s))) (drop 3 s)
    unnamed-shown = rw (← unnamed)

pub returns-then-tag_of-eq-IDENTIFIER-clause-reads : goal.returns-then-tag_of-eq-IDENTIFIER-clause-reads
returns-then-tag_of-eq-IDENTIFIER-clause-reads c = search named

pub returns-then-tag_of-eq-IDENTIFIER-clause-shows : goal.returns-then-tag_of-eq-IDENTIFIER-clause-shows
returns-then-tag_of-eq-IDENTIFIER-clause-shows c = search named-shown

pub returns-clause-reads : goal.returns-clause-reads
returns-clause-reads c = search unnamed

pub returns-clause-shows : goal.returns-clause-shows
returns-clause-shows c = search unnamed-shown
