-- The table of an entry's payouts or debits: what was chosen among the calls are all there are, in walk order, each at its
-- place in the file.
use Rattle.std.proofs.Common.{ℕ, zero, suc, ◌%◌, ◌≤◌, ◌<◌, ◌≡◌, refl, sym, ap, ◌∙◌, Bool, true, false, cond, List, [], ◌∷◌, map, arith, zero-add, eqb, length, get_or, take}
use lib.ListN.{length-map, get_or-map}
use lib.Seq.{sets}
use Rattle.laws.proofs.Tables.{sets-at}
use Rattle.laws.specs.Lists.{filter}
use Rattle.laws.proofs.Lists.{Every, every-filter, filter-first}
use Rattle.tags.specs.Tag.{Call}
use Rattle.fields.specs.Field.{Field, Placed, tag}
use Rattle.fields.specs.Table.{Listed, fields_at}
use Rattle.fields.proofs.Tables.{listed-front}
use Rattle.fields.proofs.Inside.{Stands}
use Rattle.walking.specs.Walking.{body_exprs, without_places, is_debit, is_payout, debits, payouts}
use Rattle.walking.specs.Table.{placed_at, of_tag, places_of}
use Rattle.walking.proofs.Callers.{body-places, body-stands, body-anywhere, read_back}
use Rattle.walking.proofs.Calls.{is_call}
use Rattle.entries.specs.Calls.{passes_at, places_where, body_where}
use Rattle.entries.specs.Entered.{nowhere, CallsOf}

-- a place modulo 65,536 is the place, in a short file
module _ (file : List ℕ) (test : Field → Bool) where
  kept-places : (ps : List Placed) → Every (Stands file) ps →
      filter (passes_at file test) (map (λ p. p.place) ps) ≡ map (λ p. p.place) (filter (λ p. test p.this) ps)
  unfolding passes_at
  kept-places [] e = refl
  kept-places (p ∷ ps) e = rw e.0 (go (test p.this) (kept-places ps e.1))
    where
      go : (k : Bool) → filter (passes_at file test) (map (λ q. q.place) ps) ≡ map (λ q. q.place) (filter (λ q. test q.this) ps) →
          cond k (p.place ∷ filter (passes_at file test) (map (λ q. q.place) ps)) (filter (passes_at file test) (map (λ q. q.place) ps))
          ≡ map (λ q. q.place) (cond k (p ∷ filter (λ q. test q.this) ps) (filter (λ q. test q.this) ps))
      go true f = rw f
      go false f = f

  -- what passes the test is a call, so that all are among the calls
  pub places-where : ((f : Field) → test f ≡ true → is_call f ≡ true) → (n : ℕ) → length file < 65536 →
      places_where file test (places_of Call (body_exprs (placed_at file n))) ≡ map (λ p. p.place) (body_where test (placed_at file n))
  places-where called n h =
      let ps = body_exprs (placed_at file n) in
      rw (body-places file n Call h)
      (kept-places (of_tag Call ps) (every-filter (Stands file) (λ p. eqb (tag p.this) Call) ps (body-stands file (placed_at file n) refl))
      ∙ ap (λ l. map (λ p. p.place) l) (filter-first (λ p. test p.this) (λ p. eqb (tag p.this) Call) (λ p k. called p.this k) ps))

-- each of them stands where two bytes say
small-places : (ps : List Placed) → Every (λ k. k < 65536) (map (λ p. p.place % 65536) ps)
small-places [] = tt
small-places (p ∷ ps) = (omega arith, small-places ps)

small-at : (ks : List ℕ) → Every (λ k. k < 65536) ks → (i : ℕ) → get_or ks i 0 < 65536
small-at [] h i = omega arith
small-at (k ∷ ks) h zero = h.0
small-at (k ∷ ks) h (suc i) = small-at ks h.1 i

pub places-small : (file : List ℕ) (test : Field → Bool) → ((f : Field) → test f ≡ true → is_call f ≡ true) → (n : ℕ) → length file < 65536 → (i : ℕ) →
    (get_or (body_where test (placed_at file n)) i nowhere).place < 65536
places-small file test called n h i =
    let small : get_or (places_where file test (places_of Call (body_exprs (placed_at file n)))) i 0 < 65536 =
    small-at _ (every-filter (λ k. k < 65536) (passes_at file test) _ (small-places (of_tag Call (body_exprs (placed_at file n))))) i in
    let e = ap (λ l. get_or l i 0) (places-where file test called n h) ∙ get_or-map (λ p. p.place) (body_where test (placed_at file n)) i nowhere in
    rw e at small

-- without their places they are the entry's payouts, or its debits
fields-where : (test : Field → Bool) (ps : List Placed) → without_places (filter (λ p. test p.this) ps) ≡ filter test (without_places ps)
fields-where test [] = refl
fields-where test (p ∷ ps) = go (test p.this) (fields-where test ps)
  where
    go : (k : Bool) → without_places (filter (λ q. test q.this) ps) ≡ filter test (without_places ps) →
        without_places (cond k (p ∷ filter (λ q. test q.this) ps) (filter (λ q. test q.this) ps))
        ≡ cond k (p.this ∷ filter test (without_places ps)) (filter test (without_places ps))
    go true e = rw e
    go false e = e

pub payouts-where : (entry : Placed) → without_places (body_where is_payout entry) ≡ payouts entry.this
unfolding payouts
payouts-where entry = fields-where is_payout (body_exprs entry) ∙ rw (body-anywhere entry)

pub debits-where : (entry : Placed) → without_places (body_where is_debit entry) ≡ debits entry.this
unfolding debits
debits-where entry = fields-where is_debit (body_exprs entry) ∙ rw (body-anywhere entry)

-- What was listed stands in the table, as far as it has room

pub listed_at : (ks t u : List ℕ) (r i : ℕ) → Listed ks t 0 u r → i < length t → i < length ks → get_or u i 0 ≡ get_or ks i 0
listed_at ks t u r i p h g = rw p.kept (ap (λ j. get_or (sets t 0 ks) j 0) (sym (zero-add i)) ∙ sets-at ks t 0 i (omega (arith, h)) g)

-- A table of those of the entry at a place, as far as it has room

module _ (file : List ℕ) (place : ℕ) (calls : List ℕ) (c : CallsOf file place calls) (test : Field → Bool)
    (called : (f : Field) → test f ≡ true → is_call f ≡ true) (zeros table : List ℕ) (r : ℕ) (l : Listed (places_where file test calls) zeros 0 table r) where
  abbrev those : List Placed
  those = body_where test (placed_at file place)

  places-listed : Listed (map (λ p. p.place) those) zeros 0 table r
  places-listed = rw (c.listed, places-where file test called place (omega (arith, c.small))) at l

  pub where-counted : r ≡ length (without_places those)
  where-counted =
      places-listed.count ∙ zero-add (length (map (λ p. p.place) those)) ∙ length-map those (λ p. p.place) ∙ sym (length-map those (λ p. p.this))

  -- the place of the one with a number
  pub where-place : (i : ℕ) → i < length zeros → i < r → get_or table i 0 ≡ (get_or those i nowhere).place
  where-place i h g =
      listed_at (map (λ p. p.place) those) zeros table r i places-listed h (omega (arith, g, places-listed.count))
      ∙ get_or-map (λ p. p.place) those i nowhere

  -- where there is room for all, the file gives them back
  pub where-read : r ≤ length zeros → fields_at file (take r table) ≡ without_places those
  unfolding fields_at
  where-read h =
      rw (listed-front (map (λ p. p.place) those) zeros table r places-listed h)
      (read_back file those (every-filter (Stands file) (λ p. test p.this) (body_exprs (placed_at file place)) (body-stands file (placed_at file place) refl)))
