-- Entry by entry, and in each raise by raise: the number agreed on so far and those of the raises ahead agree on that of all.
use Rattle.std.proofs.Common.{ℕ, suc, ◌+◌, ◌≤◌, ◌<◌, ◌≡◌, refl, sym, ◌∙◌, Bool, true, false, cond, not}
use Rattle.std.proofs.Common.{List, [], ◌∷◌, ◌++◌, map, arith, add-one, eq-eqb, ne_eqb, length, get_or, drop, drop-cons, drop_of_length-le}
use mathlib.Core.List.{flat_map}
use borrow.Author.Tests.{not-true}
use denote.Param.Members.{Mut}
use denote.Ref.{Bor}
use Rattle.std.specs.Fn.{CalledAt}
use Rattle.std.specs.Iterator.Adapters.{filter_source, filter_callee, filter_steps}
use Rattle.std.specs.declared.iter.Filter.{Filter}
use Rattle.std.proofs.lemmas.Iterator.{YieldsList}
use Rattle.std.proofs.lemmas.Iterator.Consumers.{YieldsList-at, YieldsList-from_filter}
use Rattle.laws.specs.Lists.{filter}
use Rattle.tags.specs.Tag.{Entry, between}
use Rattle.tags.proofs.Ranges.{between-one}
use Rattle.fields.specs.Field.{Field, Placed, fields, row, whole, front, tag, parts, placed_from}
use Rattle.fields.specs.Row.{left, Step, Steps}
use Rattle.fields.specs.declared.field.Fields.{Fields}
use Rattle.fields.specs.declared.field.Field.{Field as Item}
use Rattle.fields.proofs.EndOf.{EndOf, end-there}
use Rattle.fields.proofs.InARow.{along-row, left-next, placed-end}
use Rattle.model.specs.Model.{body, entries}
use Rattle.walking.specs.Table.{placed_at}
use Rattle.tokens.specs.Numbers.{token_of}
use Rattle.raises.specs.Raising.{is_raise, raised_by, raising}
use Rattle.raises.proofs.Statements.{raises-in}
use Rattle.reserve_tokens.specs.Reserving.{Found, bars}
use Rattle.reserve_tokens.specs.Numbers.{raise_number, numbers_in, agreed}
use Rattle.reserve_tokens.specs.Agreeing.{agreed_after, Agreed, Agreeing, AllAgree}
use Rattle.reserve_tokens.proofs.Held.{not-barred, found_none, found-known}
use Rattle.reserve_tokens.proofs.Raised.{none-raised, numbers-raised}

-- The raises of an entry

-- the statements that raise the field, as the code goes through them
abbrev pub raising_ones : List ℕ → Placed → List Field
raising_ones name entry = filter (is_raise name) (body entry.this)

pub ones-read : (file name : List ℕ) (place : ℕ) (x : List ℕ) → x ≡ drop place file → (p t : List ℕ) → fields p ≡ parts (front x) → t ≡ p →
    filter (is_raise name) (row (fields t)) ≡ raising_ones name (placed_at file place)
unfolding body
ones-read file name place x d p t e f = rw (f, e, d) (sym (raises-in name (parts (front (drop place file)))))

-- the code filters the row of the entry's parts by that test
pub along-raises : {F : Type 0} (g : Mut F (Bor Item × Unit {0}) Bool) {f : F} (file name : List ℕ) (place : ℕ) (x : List ℕ) → x ≡ drop place file →
    (p : List ℕ) → fields p ≡ parts (front x) → (all : Fields) → all.rest.now ≡ p → (ones it : Filter Fields F) → it ≡ ones → filter_source ones ≡ all →
    filter_callee ones ≡ f → ((x : Item) (b : Bool) (q : F) → CalledAt g f x b q → (q ≡ f) × (b ≡ is_raise name (front x.part.now))) →
    YieldsList (filter_steps Steps g) (λ p. front p.part.now) it (raising_ones name (placed_at file place))
along-raises g file name place x d p e all t ones it y z o k =
    let read = ones-read file name place x d p all.rest.now e t in
    rw read at (YieldsList-at y (YieldsList-from_filter g (is_raise name) (YieldsList-at z (along-row all)) o k))

-- n of them are passed: the number agreed on so far and those of the raises ahead agree on that of all
pub record Raises (file name : List ℕ) (entry : Placed) (before now n : ℕ) : Type 0 where
  pub found : Found file now
  pub left : (rest : List ℕ) → agreed file now (map (raise_number file entry) (map (raised_by name) (drop n (raising_ones name entry))) ++ rest)
      ≡ agreed_after file before (numbers_in file name entry ++ rest)

-- what was found before further raises is agreed on with none of them
found-left : (file : List ℕ) (k : ℕ) → (k ≡ 0 → ⊥) → (ns : List ℕ) → agreed_after file k ns ≡ agreed file k ns
unfolding agreed_after
found-left file k n ns = rw (ne_eqb k 0 n)

pub raises-all : (file name : List ℕ) (entry : Placed) (before : ℕ) → Agreed file before → (before ≡ 0 → ⊥) → Raises file name entry before before 0
raises-all file name entry before a n =
    record { found = a n; left = λ rest. rw (found-left file before n (numbers_in file name entry ++ rest), numbers-raised file name entry) refl }

-- a field that is barred stays barred
pub still-barred : (file : List ℕ) (before : ℕ) (ns : List ℕ) → before ≡ 0 → Agreeing file before ns 0
unfolding agreed_after
still-barred file before ns e = rw e (record { found = λ n. absurd (n refl); left = λ rest. refl })

module _ (file name : List ℕ) (entry : Placed) (before now n : ℕ) (i : Raises file name entry before now n) where
  pub raises-done : n ≡ length (raising_ones name entry) → Agreeing file before (numbers_in file name entry) now
  raises-done e =
      let none : drop n (raising_ones name entry) ≡ [] = drop_of_length-le (raising_ones name entry) (omega (arith, e)) in
      record { found = λ z. i.found; left = λ rest. found-left file now (λ z. omega (arith, i.found.some, z)) rest ∙ (rw none at (i.left rest)) }

  module _ (x : Field) (h : (n < length (raising_ones name entry)) × (x ≡ get_or (raising_ones name entry) n x)) (amount : List ℕ) (a : front amount ≡ raised_by name x) (number : ℕ)
      (k : number ≡ raise_number file entry (front amount)) (b : Bool) (f : b ≡ bars (token_of file now) (token_of file number)) where
    -- the numbers behind it
    abbrev ahead : List ℕ
    ahead = map (raise_number file entry) (map (raised_by name) (drop (suc n) (raising_ones name entry)))

    next-one : drop n (raising_ones name entry) ≡ x ∷ drop (suc n) (raising_ones name entry)
    next-one = rw (drop-cons (raising_ones name entry) n x h.0, ← h.1)

    here : (rest : List ℕ) → cond b 1 (agreed file number (ahead ++ rest)) ≡ agreed_after file before (numbers_in file name entry ++ rest)
    unfolding agreed
    here rest = rw (f, k, a) (rw next-one at (i.left rest))

    pub raises-barred : b ≡ true → Agreeing file before (numbers_in file name entry) 0
    unfolding agreed_after
    raises-barred g = record { found = λ z. absurd (z refl); left = λ rest. rw g at (here rest) }

    pub raises-on : length file ≤ 32768 → b ≡ false → (m : ℕ) → m ≡ n + 1 → Raises file name entry before number m
    raises-on s g m e = record {
      found = found-known file s number (not-barred (token_of file now) (token_of file number) (sym f ∙ g));
      left = λ rest. rw (e, add-one) (rw g at (here rest));
    }

-- no raises change nothing
pub none-more : (file : List ℕ) (before : ℕ) → Agreed file before → (ns : List ℕ) → ns ≡ [] → Agreeing file before ns before
none-more file before a ns e = rw e (record { found = a; left = λ rest. refl })

-- an entry that does not raise the field changes nothing
pub entry-passed-over : (file name : List ℕ) (place : ℕ) (x : List ℕ) → x ≡ drop place file → (b : Bool) → b ≡ raising name (front x) → not b ≡ true →
    (before : ℕ) → Agreed file before → Agreeing file before (numbers_in file name (placed_at file place)) before
entry-passed-over file name place x e b f h before a =
    none-more file before a (numbers_in file name (placed_at file place)) (none-raised file name (placed_at file place) (rw e at (sym f ∙ not-true b h)))

-- One entry after the other

-- the numbers of the raises in the entries among some fields
abbrev pub numbers_among : (file name : List ℕ) → List Placed → List ℕ
numbers_among file name ps = flat_map (numbers_in file name) (filter (λ p. between Entry Entry (tag p.this)) ps)

-- the number of what the raises so far agree on, with those of the fields that are left, is that of all
pub record Ahead (file name : List ℕ) (now : ℕ) (rest : Fields) : Type 0 where
  pub found : Agreed file now
  pub left : agreed_after file now (numbers_among file name (left rest)) ≡ agreed file 1 (flat_map (numbers_in file name) (entries (fields file)))

pub ahead-all : (file name : List ℕ) (it all : Fields) → all ≡ it → it.rest.now ≡ file → it.place ≡ 0 → Ahead file name 1 all
unfolding entries agreed_after placed_from
ahead-all file name it all y r z = record { found = λ n. found_none file; left = rw (y, r, z) }

module _ (file name : List ℕ) (now : ℕ) (rest : Fields) (o : Ahead file name now rest) where
  pub ahead-end : whole rest.rest.now ≡ false → AllAgree file name now
  unfolding flat_map
  ahead-end w = rw (placed-end rest.rest.now w rest.place) at o.left

  module _ (i : EndOf file rest) (f : Item) (behind : Fields) (h : Step rest f behind) (g : ℕ) (e : g ≡ tag (front f.part.now)) where
    -- another field is passed over
    pub ahead-past : (g ≡ Entry → ⊥) → Ahead file name now behind
    ahead-past n = record {
      found = o.found;
      left = rw (left-next rest f behind h, ← e, between-one Entry g, ne_eqb g Entry n) at o.left;
    }

    module _ (q : g ≡ Entry) (next : ℕ) (r : Agreeing file now (numbers_in file name (placed_at file f.place)) next) where
      entry-passed : agreed_after file next (numbers_among file name (left behind)) ≡ agreed file 1 (flat_map (numbers_in file name) (entries (fields file)))
      unfolding flat_map
      entry-passed =
          (rw (end-there file rest i f behind h) at (r.left (numbers_among file name (left behind))))
          ∙ (rw (left-next rest f behind h, ← e, between-one Entry g, eq-eqb g Entry q) at o.left)

      pub entry-barred : next ≡ 0 → AllAgree file name 0
      unfolding agreed_after
      entry-barred z = rw z at entry-passed

      pub ahead-on : Ahead file name next behind
      ahead-on = record { found = r.found; left = entry-passed }
