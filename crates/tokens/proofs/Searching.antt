-- The clauses or guards of an entry, one after the other: the set found so far and what is left have the number of all, and two
-- that differ stay so.
use Rattle.std.proofs.Common.{ℕ, ◌+◌, ◌-◌, ◌*◌, ◌≤◌, ◌≡◌, refl, sym, ap, ◌∙◌, Bool, true, false, List, ◌∷◌, map, arith, leb-true, length, take, drop, length-take, length-drop}
use mathlib.Core.List.{flat_map, map-append}
use Rattle.laws.specs.Lists.{filter}
use Rattle.laws.proofs.Lists.{Every}
use Rattle.tags.specs.Tag.{Limits, Denies, Guard, between}
use Rattle.fields.specs.Table.{Listed}
use Rattle.fields.specs.Field.{Placed, fields, length_of, whole, front, tag, parts, sizes, placed_from}
use Rattle.fields.specs.Row.{shown, left, Step}
use Rattle.fields.specs.declared.field.Fields.{Fields}
use Rattle.fields.specs.declared.field.Field.{Field as Found}
use Rattle.fields.proofs.Inside.{Stands, parts-stand}
use Rattle.fields.proofs.InARow.{left-next, placed-end}
use Rattle.walking.specs.Table.{placed_at}
use Rattle.conditions.specs.Conditions.{conditions_of, conditions_from, required_conditions}
use Rattle.conditions.specs.Table.{marks, conditions_at}
use Rattle.conditions.proofs.Callers.{table-wide, table-read}
use Rattle.tokens.specs.Numbers.{joined_all, condition_number, joined_from, tokens_number}
use Rattle.tokens.proofs.Joining.{joined-append, all-several}
use Rattle.tokens.proofs.Numbers.{mark_number, mapped-marks}

-- what some clauses or guards of an entry at n name
abbrev numbers_of : (n : ℕ) → List Placed → List ℕ
numbers_of n ps = map (condition_number n) (flat_map conditions_of ps)

-- those among some parts
abbrev chosen_from : (low high : ℕ) → List Placed → List Placed
chosen_from low high ps = filter (λ p. between low high (tag p.this)) ps

-- of the entry at n these parts are left
pub record Searching (file : List ℕ) (n low high : ℕ) (rest : Fields) (found r : ℕ) : Type 0 where
  pub behind_head : 3 ≤ rest.place
  pub within : rest.place + length rest.rest.now ≤ 3 + (length (drop n file) - 3)
  pub stands : Every (Stands (drop n file)) (left rest)
  pub ahead : joined_all file found (numbers_of n (chosen_from low high (left rest))) ≡ r

pub searching-all : (file : List ℕ) (n : ℕ) (s : List ℕ) → s ≡ drop n file → (low high : ℕ) (x : List ℕ) → fields x ≡ parts (front s) →
    x ≡ take (sizes (parts (front s))) (drop 3 s) → (it all : Fields) → all ≡ it → it.rest.now ≡ x → it.place ≡ 3 → (before : ℕ) →
    Searching file n low high all before (joined_from file low high (placed_at file n) before)
unfolding joined_from placed_from
searching-all file n s e low high x f g it all y r z before = record {
  behind_head = rw (y, z) (omega arith);
  within = rw (y, z, r, g, length-take (sizes (parts (front s))) (drop 3 s), length-drop 3 s, e) (omega arith);
  stands = rw (y, z, r, f, ← e) (parts-stand s (record { place = 0; this = front s }) refl);
  ahead = rw (y, z, r, f, ← e);
}

module _ (file : List ℕ) (n low high : ℕ) (rest : Fields) (found r : ℕ) (i : Searching file n low high rest found r) where
  pub searching-done : whole rest.rest.now ≡ false → found ≡ r
  unfolding flat_map joined_all
  searching-done w = rw (placed-end rest.rest.now w rest.place) at i.ahead

  module _ (f : Found) (behind : Fields) (h : Step rest f behind) (g : ℕ) (e : g ≡ tag (front f.part.now)) (b : Bool) (o : b ≡ between low high g) where
    both-stand : Every (Stands (drop n file)) (shown f ∷ left behind)
    both-stand = rw (left-next rest f behind h) at i.stands

    after-head : 3 ≤ behind.place
    after-head = omega (arith, i.behind_head, h.behind)

    behind-within : behind.place + length behind.rest.now ≤ 3 + (length (drop n file) - 3)
    behind-within =
        let l : length behind.rest.now ≡ length rest.rest.now - (3 + length_of rest.rest.now) = ap length h.rest ∙ length-drop (3 + length_of rest.rest.now) rest.rest.now in
        omega (arith, i.within, h.behind, l, leb-true (3 + length_of rest.rest.now) (length rest.rest.now) h.there)

    -- another part is passed over
    pub searching-past : b ≡ false → Searching file n low high behind found r
    searching-past k = record {
      behind_head = after-head;
      within = behind-within;
      stands = both-stand.1;
      ahead = rw (left-next rest f behind h, ← e, ← o, k) at i.ahead;
    }

    module _ (k : b ≡ true) where
      joined-on : joined_all file (joined_all file found (map (condition_number n) (conditions_of (shown f)))) (numbers_of n (chosen_from low high (left behind))) ≡ r
      unfolding flat_map
      joined-on =
          rw (
            ← joined-append file found (map (condition_number n) (conditions_of (shown f))) (numbers_of n (chosen_from low high (left behind))),
            ← map-append (condition_number n) (conditions_of (shown f)) (flat_map conditions_of (chosen_from low high (left behind))),
          ) (rw (left-next rest f behind h, ← e, ← o, k) at i.ahead)

      -- the lent table holds its conditions
      module _ (s : List ℕ) (q : s ≡ drop n file) (short : length file ≤ 32768) (table : List ℕ) (room : length file ≤ 3 * length table)
          (items : List ℕ) (count : ℕ) (l : Listed (marks (conditions_of (shown f))) table 0 items count) (ks : List ℕ) (u : ks ≡ take count items) where
        pub here-read : map (mark_number s n) ks ≡ map (condition_number n) (conditions_of (shown f))
        unfolding conditions_at
        here-read =
            let d : length (drop n file) ≤ length file = rw (length-drop n file) (omega arith) in
            let w : f.place + length f.part.now ≤ length (drop n file) =
            rw (h.place, h.part) (omega (arith, i.behind_head, i.within, leb-true (3 + length_of rest.rest.now) (length rest.rest.now) h.there)) in
            let m : count ≤ length table = table-wide (drop n file) f.place f.part.now both-stand.0 f.there w table items count l (omega (arith, d)) in
            rw (u, q, mapped-marks (drop n file) n (take count items))
            (ap (map (condition_number n)) (table-read (drop n file) f.place f.part.now both-stand.0 f.there w table items count l (omega (arith, d)) m))

        pub searching-on : (v : ℕ) → v ≡ joined_all file found (map (mark_number s n) ks) → Searching file n low high behind v r
        searching-on v j = record { behind_head = after-head; within = behind-within; stands = both-stand.1; ahead = rw (j, here-read) joined-on }

        pub searching-several : joined_all file found (map (mark_number s n) ks) ≡ 1 → 1 ≡ r
        searching-several j = sym (all-several file (numbers_of n (chosen_from low high (left behind)))) ∙ (rw (← here-read, j) at joined-on)

-- an entry's clauses, and then its guards
module _ (file : List ℕ) (n : ℕ) (named : ℕ) (e : named ≡ joined_from file Limits Denies (placed_at file n) 0) where
  both-joined : joined_from file Guard Guard (placed_at file n) named ≡ tokens_number file (placed_at file n)
  unfolding joined_from tokens_number required_conditions
  both-joined =
      let ps = parts (front (drop n file)) in
      rw (
        e,
        ← joined-append file 0 (map (condition_number n) (conditions_from Limits Denies 3 ps)) (map (condition_number n) (conditions_from Guard Guard 3 ps)),
        ← map-append (condition_number n) (conditions_from Limits Denies 3 ps) (conditions_from Guard Guard 3 ps),
      )

  pub guards-joined : (r : ℕ) → r ≡ joined_from file Guard Guard (placed_at file n) named → r ≡ tokens_number file (placed_at file n)
  guards-joined r f = f ∙ both-joined

  pub clauses-several : named ≡ 1 → 1 ≡ tokens_number file (placed_at file n)
  unfolding joined_from
  clauses-several f =
      sym (all-several file (map (condition_number n) (conditions_from Guard Guard 3 (parts (front (drop n file))))))
      ∙ (rw f at both-joined)
