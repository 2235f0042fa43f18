-- The numbers of several state fields, one after the other: those that were gone through are what they should be, and the others are as
-- they were.
use Rattle.std.proofs.Common.{ℕ, ◌≤◌, ◌<◌, ◌≡◌, sym, ◌∙◌, Bool, false, List, arith, length, get_or, replicate, drop}
use lib.ListN.{length-replicate, get_or-replicate}
use Rattle.laws.specs.Lists.{any}
use Rattle.fields.specs.Field.{fields, whole, front, tag, parts, row}
use Rattle.fields.specs.Row.{Step}
use Rattle.fields.specs.declared.field.Fields.{Fields}
use Rattle.fields.specs.declared.field.Field.{Field as Item}
use Rattle.fields.proofs.EndOf.{EndOf}
use Rattle.walking.specs.Table.{placed_at}
use Rattle.tags.specs.Tag.{Entry, Set, AddTo, between}
use Rattle.reserve_tokens.specs.Numbers.{numbers_in, reserve_number}
use Rattle.reserve_tokens.specs.Each.{nth_name, Each, EachAgreed, EachAgreeing, EachAllAgree}
use Rattle.reserve_tokens.proofs.Raised.{none-assigned}
use Rattle.reserve_tokens.proofs.Numbers.{reserve-found}
use Rattle.reserve_tokens.proofs.Reserving.{Ahead, none-more, ahead-all, ahead-past, ahead-on, ahead-end}

-- One number after the other

-- what should be is said of each number of the table by its place in it
pub record Replacing (P : ℕ → ℕ → Type 0) (before now : List ℕ) (j : ℕ) : Type 0 where
  pub long : length now ≡ length before
  pub done : (i : ℕ) → i < j → P i (get_or now i 0)
  pub left : (i : ℕ) → j ≤ i → get_or now i 0 ≡ get_or before i 0

-- The numbers of an entry's raises

module _ (file places before : List ℕ) where
  -- an entry that sets and adds to nothing changes none
  pub each-passed-over : EachAgreed file places before → (place : ℕ) → any (λ f. between Set AddTo (tag f)) (row (parts (front (drop place file)))) ≡ false →
      EachAgreeing file places before (placed_at file place) before
  each-passed-over v place w = record {
    room = v.room;
    each = λ j h.
        none-more file (get_or before j 0) (v.each j h) (numbers_in file (nth_name file places j) (placed_at file place))
        (none-assigned file (nth_name file places j) (placed_at file place) w);
  }

-- what the code asks of the parts
pub nothing-assigned : (file : List ℕ) (place : ℕ) (x : List ℕ) → x ≡ drop place file → (p : List ℕ) → fields p ≡ parts (front x) → (t : List ℕ) → t ≡ p →
    (b : Bool) → b ≡ any (λ f. between Set AddTo (tag f)) (row (fields t)) → b ≡ false →
    any (λ f. between Set AddTo (tag f)) (row (parts (front (drop place file)))) ≡ false
nothing-assigned file place x e p f t g b k h = rw (← e, ← f, ← g) (sym k ∙ h)

-- two bytes hold the number of a token of the file
pub number-small : (file name : List ℕ) (r : ℕ) → r ≡ reserve_number file name → length file ≤ 32768 → r < 65536
number-small file name r e h = rw e (reserve-found file name h).small

-- Entry by entry

-- for each, what its raises so far agree on and those of the fields that are left is what all agree on
abbrev pub EachAhead : (file places numbers : List ℕ) → Fields → Type 0
EachAhead file places numbers rest = Each (λ j k. Ahead file (nth_name file places j) k rest) places numbers

module _ (file places : List ℕ) where
  pub each-ahead_all : length places ≤ 64 → (it all : Fields) → all ≡ it → it.rest.now ≡ file → it.place ≡ 0 → EachAhead file places (replicate 64 1) all
  each-ahead_all few it all y r z = record {
    room = rw (length-replicate {A = ℕ} 64 1) few;
    each = λ j h.
        let o : get_or {A = ℕ} (replicate 64 1) j 0 ≡ 1 = get_or-replicate 64 j 1 0 (omega (arith, few, h)) in
        rw o (ahead-all file (nth_name file places j) it all y r z);
  }

  module _ (numbers : List ℕ) (rest : Fields) (v : EachAhead file places numbers rest) where
    pub each-found : EachAgreed file places numbers
    each-found = record { room = v.room; each = λ j h. (v.each j h).found }

    pub each-ahead_end : whole rest.rest.now ≡ false → EachAllAgree file places numbers
    each-ahead_end w = record { room = v.room; each = λ j h. ahead-end file (nth_name file places j) (get_or numbers j 0) rest (v.each j h) w }

    module _ (i : EndOf file rest) (f : Item) (behind : Fields) (h : Step rest f behind) (g : ℕ) (e : g ≡ tag (front f.part.now)) where
      pub each-ahead_past : (g ≡ Entry → ⊥) → EachAhead file places numbers behind
      each-ahead_past n = record {
        room = v.room;
        each = λ j l. ahead-past file (nth_name file places j) (get_or numbers j 0) rest (v.each j l) i f behind h g e n;
      }

      pub each-ahead_on : g ≡ Entry → (next : List ℕ) → EachAgreeing file places numbers (placed_at file f.place) next → EachAhead file places next behind
      each-ahead_on q next r = record {
        room = r.room;
        each = λ j l. ahead-on file (nth_name file places j) (get_or numbers j 0) rest (v.each j l) i f behind h g e q (get_or next j 0) (r.each j l);
      }
