-- Choosing among calls: of those that are gone through, the ones that pass are listed, for whatever is said of the test.
use Rattle.std.proofs.Common.{ℕ, ◌+◌, ◌≤◌, ◌<◌, ◌≡◌, ◌∙◌, Bool, true, false, cond, List, [], ◌∷◌, arith, add-one, length, get_or, take, drop, take-suc}
use Rattle.laws.proofs.Lists.{filter-append}
use Rattle.fields.specs.Field.{Field, front}
use Rattle.fields.specs.Lists.{Lists}
use Rattle.fields.specs.declared.table.Table.{Table}
use Rattle.fields.proofs.Tables.{lists-none, lists_then}
use Rattle.entries.specs.Calls.{passes_at, places_where}

pub record Choosing (file : List ℕ) (Says : (Field → Bool) → Type 0) (calls : List ℕ) (table : Table ℕ) (i : ℕ) (last : Table ℕ) : Type 0 where
  pub same : last.items.ghost_name ≡ table.items.ghost_name
  pub few : last.count ≤ i
  pub so_far : (passes : Field → Bool) → Says passes → Lists (places_where file passes (take i calls)) table last

module _ (file : List ℕ) (Says : (Field → Bool) → Type 0) (calls : List ℕ) (table : Table ℕ) where
  module _ (i : ℕ) (last : Table ℕ) (c : Choosing file Says calls table i last) where
    module _ (h : i < length calls) where
      -- what is asked of the next one
      module _ (n : ℕ) (e : n ≡ get_or calls i 0) (x : List ℕ) (g : x ≡ drop n file) (b : Bool) (f : (passes : Field → Bool) → Says passes → b ≡ passes (front x)) where
        abbrev call : ℕ
        call = get_or calls i 0

        one-more : (passes : Field → Bool) → Says passes → (v : Table ℕ) → Lists (cond b (call ∷ []) []) last v →
            Lists (places_where file passes (take (i + 1) calls)) table v
        unfolding passes_at
        one-more passes s v p =
            let here : b ≡ passes (front (drop call file)) = f passes s ∙ rw (g, e) in
            rw (add-one i, take-suc calls i 0 h, filter-append (passes_at file passes) (take i calls) (call ∷ []), ← here)
            (lists_then (c.so_far passes s) p)

        pub choosing-listed : b ≡ true → (v : Table ℕ) → Lists (call ∷ []) last v → Choosing file Says calls table (i + 1) v
        choosing-listed t v p =
            record { same = p.same ∙ c.same; few = omega (arith, p.listed.count, c.few); so_far = λ passes s. one-more passes s v (rw t p) }

        pub choosing-passed : b ≡ false → Choosing file Says calls table (i + 1) last
        choosing-passed t =
            record { same = c.same; few = omega (arith, c.few); so_far = λ passes s. one-more passes s last (rw t (lists-none last)) }
