-- A number that is noted is shown from then on: its place holds its note, or that several share the place.
use Rattle.std.proofs.Common.{ℕ, ◌+◌, ◌/◌, ◌%◌, ◌≤◌, ◌<◌, ◌≡◌, refl, sym, Bool, true, false, cond, ◌&&◌, ◌||◌, List, [], ◌∷◌, ◌++◌, append-nil, arith, mod-lt, eq-eqb, ne_eqb, eqb-true, ltb-true}
use Rattle.std.proofs.Common.{ltb-false, eqb, ltb, length, get_or, set, length-set, drop-cons, get_or-set_same, get_or-set_other}
use mathlib.Core.Bool.{or-true, or-false}
use borrow.Author.Tests.{eqb-false}
use lib.ListN.{get_or-eq_default}
use lib.Seq.{set_out}
use Rattle.laws.specs.Lists.{any}
use Rattle.laws.specs.Texts.{same_bytes}
use Rattle.laws.proofs.Lists.{any_append}
use Rattle.laws.proofs.Texts.{bytes-equal}
use Rattle.tags.specs.Tag.{State}
use Rattle.fields.specs.Field.{tag_of, front}
use Rattle.fields.specs.Number.{text_number}
use Rattle.model.specs.Model.{name_of}
use Rattle.questions.specs.Noted.{table_place, note_of, joined_note, held_at, shows, with_number, shows_front, with_front}

-- whether a place that holds this shows the note
abbrev shows_note : ℕ → ℕ → Bool
shows_note held note = eqb held note || eqb held 255

several-shows : (note : ℕ) → shows_note 255 note ≡ true
several-shows note = or-true (eqb 255 note)

several-stays : (n : ℕ) → joined_note 255 (note_of n) ≡ 255
unfolding joined_note
several-stays n = rw (ne_eqb 255 (note_of n) (λ e. omega arith))

-- a note that joins what is held is shown, and what was shown before still is
joined-shows : (held note : ℕ) → shows_note (joined_note held note) note ≡ true
unfolding joined_note
joined-shows held note = go (eqb held 0 || eqb held note)
  where
    go : (k : Bool) → shows_note (cond k note 255) note ≡ true
    go true = rw (eq-eqb note note refl)
    go false = several-shows note

joined_keeps : (held note n : ℕ) → shows_note held (n + 1) ≡ true → shows_note (joined_note held note) (n + 1) ≡ true
unfolding joined_note
joined_keeps held note n e = go (eqb held 0) (eqb held note) refl refl
  where
    go : (j k : Bool) → eqb held 0 ≡ j → eqb held note ≡ k → shows_note (cond (j || k) note 255) (n + 1) ≡ true
    go true k h i = cc (rw (eqb-true held 0 h, ne_eqb 0 (n + 1) (λ z. omega arith)) at e)
    go false true h i = rw (← eqb-true held note i) e
    go false false h i = several-shows (n + 1)

-- a table without room holds that several share every place, and keeps it
module _ (t : List ℕ) (n : ℕ) where
  no_room : length t ≤ table_place t n → held_at t n ≡ 255
  unfolding held_at
  no_room h = get_or-eq_default t 255 h

  pub no-room-shows : eqb (length t) 0 ≡ true → true ≡ shows t n
  unfolding shows
  no-room-shows z = sym (rw (no_room (omega (arith, eqb-true (length t) 0 z))) (several-shows (note_of n)))

  pub no-room-kept : eqb (length t) 0 ≡ true → t ≡ with_number t n
  unfolding with_number
  no-room-kept z = sym (set_out t (table_place t n) (joined_note (held_at t n) (note_of n)) (omega (arith, eqb-true (length t) 0 z)))

  module _ (d : eqb (length t) 0 ≡ false) where
    pub has-place : table_place t n < length t
    has-place = let e = eqb-false (length t) 0 d in mod-lt (n / 262144) (omega arith)

    held : get_or t (table_place t n) 0 ≡ held_at t n
    unfolding held_at
    held = let h = has-place in cc (drop-cons t (table_place t n) 0 h, drop-cons t (table_place t n) 255 h)

    pub place-shows : eqb (get_or t (table_place t n) 0) (note_of n) || eqb (get_or t (table_place t n) 0) 255 ≡ shows t n
    unfolding shows
    place-shows = rw held

    pub place-noted : (r : ℕ) → r ≡ joined_note (get_or t (table_place t n) 0) (note_of n) → set t (table_place t n) r ≡ with_number t n
    unfolding with_number
    place-noted r e = rw (e, held)

-- one more number: at its place the notes are joined, and every other place is as it was
module _ (t : List ℕ) (m n : ℕ) where
  same_place : table_place t n ≡ table_place t m → held_at (with_number t m) n ≡ joined_note (held_at t n) (note_of m)
  unfolding held_at with_number
  same_place e = rw (length-set, e) (go (ltb (table_place t m) (length t)) refl)
    where
      go : (k : Bool) → ltb (table_place t m) (length t) ≡ k →
          get_or (set t (table_place t m) (joined_note (held_at t m) (note_of m))) (table_place t m) 255 ≡ joined_note (held_at t m) (note_of m)
      go true h = get_or-set_same t (table_place t m) (joined_note (held_at t m) (note_of m)) 255 (ltb-true (table_place t m) (length t) h)
      go false h =
          let g = ltb-false (table_place t m) (length t) h in
          rw (set_out t (table_place t m) (joined_note (held_at t m) (note_of m)) g, get_or-eq_default t 255 g) (sym (several-stays m))

  other_place : (table_place t n ≡ table_place t m → ⊥) → held_at (with_number t m) n ≡ held_at t n
  unfolding held_at with_number
  other_place d = rw length-set (get_or-set_other t (table_place t m) (table_place t n) (joined_note (held_at t m) (note_of m)) 255 d)

  shows_kept : shows t n ≡ true → shows (with_number t m) n ≡ true
  unfolding shows
  shows_kept e = go (eqb (table_place t n) (table_place t m)) refl
    where
      go : (k : Bool) → eqb (table_place t n) (table_place t m) ≡ k → shows (with_number t m) n ≡ true
      go true h = rw (same_place (eqb-true (table_place t n) (table_place t m) h)) (joined_keeps (held_at t n) (note_of m) (n / 2048 % 128) e)
      go false h = rw (other_place (eqb-false (table_place t n) (table_place t m) h)) e

shows-noted : (t : List ℕ) (n : ℕ) → shows (with_number t n) n ≡ true
unfolding shows
shows-noted t n = rw (same_place t n n refl) (joined-shows (held_at t n) (note_of n))

-- a table shows every name of a list by its number in a base, as it does once they were noted
pub record Noted (base : ℕ) (names : List (List ℕ)) (table : List ℕ) : Type 0 where
  pub shown : (name : List ℕ) → any (same_bytes name) names ≡ true → shows table (text_number base name) ≡ true

-- the names, and behind them that of the field at the front of s, if it is a state field
abbrev pub names_with : List (List ℕ) → List ℕ → List (List ℕ)
names_with names s = names ++ cond (eqb (tag_of s) State) (name_of (front s) ∷ []) []

-- whether the field at the front of s is a state field with one of these names
abbrev pub repeats : List (List ℕ) → List ℕ → Bool
repeats names s = eqb (tag_of s) State && any (same_bytes (name_of (front s))) names

pub noted-none : (base : ℕ) (t : List ℕ) → Noted base [] t
noted-none base t = record { shown = λ name e. cc }

module _ (base : ℕ) (names : List (List ℕ)) (t : List ℕ) (i : Noted base names t) where
  -- a name that is not shown is none of them
  not_shown : (name : List ℕ) → shows t (text_number base name) ≡ false → any (same_bytes name) names ≡ false
  not_shown name e = go (any (same_bytes name) names) refl
    where
      go : (k : Bool) → any (same_bytes name) names ≡ k → any (same_bytes name) names ≡ false
      go true h = cc (i.shown name h)
      go false h = h

  noted_more : (name : List ℕ) → Noted base (names ++ name ∷ []) (with_number t (text_number base name))
  noted_more name = record { shown = λ x e. go x (any (same_bytes x) names) refl (rw (any_append (same_bytes x) names (name ∷ []), or-false) at e) }
    where
      go : (x : List ℕ) (k : Bool) → any (same_bytes x) names ≡ k → k || same_bytes x name ≡ true →
          shows (with_number t (text_number base name)) (text_number base x) ≡ true
      go x true h e = shows_kept t (text_number base name) (text_number base x) (i.shown x h)
      go x false h e = rw (bytes-equal x name e) (shows-noted t (text_number base name))

  module _ (s : List ℕ) where
    pub noted-front : Noted base (names_with names s) (with_front base s t)
    noted-front = go (eqb (tag_of s) State)
      where
        go : (k : Bool) → Noted base (names ++ cond k (name_of (front s) ∷ []) []) (cond k (with_number t (text_number base (name_of (front s)))) t)
        go true = noted_more (name_of (front s))
        go false = rw append-nil i

    -- where the table shows no state field at the front of s, it repeats no name, and where it shows one, the names decide
    pub unseen : shows_front base s t ≡ false → repeats names s ≡ false
    unseen = go (eqb (tag_of s) State)
      where
        go : (k : Bool) → k && shows t (text_number base (name_of (front s))) ≡ false → k && any (same_bytes (name_of (front s))) names ≡ false
        go true e = not_shown (name_of (front s)) e
        go false e = refl

    pub seen : shows_front base s t ≡ true → repeats names s ≡ any (same_bytes (name_of (front s))) names
    seen = go (eqb (tag_of s) State)
      where
        go : (k : Bool) → k && shows t (text_number base (name_of (front s))) ≡ true →
            k && any (same_bytes (name_of (front s))) names ≡ any (same_bytes (name_of (front s))) names
        go true e = refl
        go false e = cc
