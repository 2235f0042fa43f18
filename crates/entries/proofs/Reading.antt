-- What is listed among the calls of an entry are its payouts and its debits, and behind these stand its asset parameters.
use Rattle.std.proofs.Common.{ℕ, ◌+◌, ◌*◌, ◌≤◌, ◌<◌, ◌≡◌, refl, sym, ap, ◌∙◌, Bool, true, false, List, arith, leb-true, length, get_or, take, drop, replicate, length-drop, length-take}
use Rattle.std.proofs.Common.{length-take-le, get_or-take}
use lib.ListN.{length-map, length-replicate}
use Rattle.laws.proofs.Lists.{filter-few, map_at}
use Rattle.tags.specs.Tag.{Call}
use Rattle.fields.specs.Field.{Field, whole, length_of, front, nothing, parts, size, sizes}
use Rattle.fields.specs.Lists.{Lists}
use Rattle.fields.specs.Table.{Listed, fields_at}
use Rattle.fields.specs.declared.table.Table.{Table}
use Rattle.fields.proofs.Reading.{front-none}
use Rattle.fields.proofs.Places.{front-size}
use Rattle.fields.proofs.Tables.{listed-front, listed-long}
use Rattle.walking.specs.Walking.{body_exprs, is_payout, is_debit, asset_params}
use Rattle.walking.specs.Table.{placed_at, places_of}
use Rattle.walking.proofs.Callers.{body-few}
use Rattle.walking.proofs.Calls.{payout-call, debit-call}
use Rattle.tokens.specs.Numbers.{Standing}
use Rattle.entries.specs.Calls.{passes_at, places_where, asset_places}
use Rattle.entries.specs.Entered.{PaidOf, BackedOf, entry_of, Lent, CallsOf, Read, Entered}
use Rattle.entries.specs.declared.entry.Entry.{Entry}
use Rattle.entries.proofs.Called.{where-counted, where-place, where-read, payouts-where, debits-where}
use Rattle.entries.proofs.Naming.{name_at, names-read, front-stays, name-there}

-- The calls: each takes three bytes at least, so that there is room for all

few-calls : (file : List ℕ) (n : ℕ) → 3 * length (places_of Call (body_exprs (placed_at file n))) ≤ length file
unfolding size sizes
few-calls file n = go (whole (drop n file)) refl
  where
    few : 3 + 3 * length (places_of Call (body_exprs (placed_at file n))) ≤ size (front (drop n file))
    few = body-few (placed_at file n) Call

    go : (w : Bool) → whole (drop n file) ≡ w → 3 * length (places_of Call (body_exprs (placed_at file n))) ≤ length file
    go true w = omega (arith, few, front-size (drop n file) w, leb-true (3 + length_of (drop n file)) (length (drop n file)) w, length-drop n file)
    go false w = omega (arith, few, ap size (front-none (drop n file) w))

module _ (file : List ℕ) (place : ℕ) (old : List ℕ) (lent : Lent file place old) where
  pub calls-all : (body : Table ℕ) → Listed (places_of Call (body_exprs (placed_at file place))) old 0 body.items.now body.count →
      (calls : List ℕ) → calls ≡ take body.count body.items.now → CallsOf file place calls
  calls-all body l calls e =
      record {
        small = lent.small;
        inside = lent.inside;
        listed = e ∙ listed-front (places_of Call (body_exprs (placed_at file place))) old body.items.now body.count l (omega (arith, l.count, few-calls file place, lent.room));
      }

module _ (file : List ℕ) (place : ℕ) (calls : List ℕ) (c : CallsOf file place calls) where
  pub places-few : (test : Field → Bool) (zeros table : List ℕ) (r : ℕ) → Listed (places_where file test calls) zeros 0 table r → 3 * r ≤ length file
  places-few test zeros table r l =
      omega (
        arith,
        l.count,
        filter-few (passes_at file test) calls,
        few-calls file place,
        ap length c.listed,
      )

  wide : (n : ℕ) → length (replicate {A = ℕ} n 0) ≡ n
  wide n = length-replicate {A = ℕ} n 0

  -- The payouts

  pub payouts-read : (table : List ℕ) (r : ℕ) → Listed (places_where file is_payout calls) (replicate 65 0) 0 table r → PaidOf file place r table
  payouts-read table r l =
      record {
        many = where-counted file place calls c is_payout payout-call (replicate 65 0) table r l ∙ ap length (payouts-where (placed_at file place));
        last = λ h. where-place file place calls c is_payout payout-call (replicate 65 0) table r l 64 (omega (arith, wide 65)) h;
        paid = λ h. where-read file place calls c is_payout payout-call (replicate 65 0) table r l (omega (arith, wide 65, h)) ∙ payouts-where (placed_at file place);
      }

  -- The backings

  module _ (table : List ℕ) (r : ℕ) (l : Listed (places_where file is_debit calls) (replicate 64 0) 0 table r) where
    pub debits-standing : Standing file place r
    debits-standing = record { short = c.small; within = c.inside; few = omega (arith, places-few is_debit (replicate 64 0) table r l, c.small) }

    module _ (last : List ℕ) (k : ℕ) (q : Listed (asset_places (place + 3) (parts (front (drop place file)))) table r last k) where
      -- each asset parameter has one place
      parameters-counted : k ≡ r + length (asset_params (entry_of file place))
      parameters-counted =
          q.count
          ∙ ap (λ n. r + n) (sym (length-map (asset_places (place + 3) (parts (front (drop place file)))) (name_at file)) ∙ ap length (names-read file place))

      room : k ≤ 64 → r + length (asset_params (entry_of file place)) ≤ length table
      room h =
          let w : length table ≡ 64 = listed-long l ∙ wide 64 in
          omega (arith, w, h, parameters-counted)

      pub backings-read : BackedOf file place r k last
      backings-read =
          record {
            counted = where-counted file place calls c is_debit debit-call (replicate 64 0) table r l ∙ ap length (debits-where (placed_at file place));
            all = parameters-counted;
            listed = λ h. rw (front-stays file place table r last k q (room h))
                (where-read file place calls c is_debit debit-call (replicate 64 0) table r l (omega (arith, wide 64, h, parameters-counted)) ∙ debits-where (placed_at file place));
            named = λ h i g. name-there file place table r last k q (room h) i (omega (arith, g, parameters-counted));
          }

  -- Both together

  module _ (debits : Table ℕ) (l : Listed (places_where file is_debit calls) (replicate 64 0) 0 debits.items.now debits.count)
      (paid : Table ℕ) (p : Listed (places_where file is_payout calls) (replicate 65 0) 0 paid.items.now paid.count)
      (backed : Table ℕ) (q : Lists (asset_places (place + 3) (parts (front (drop place file)))) debits backed) where
    of-payouts : PaidOf file place paid.count paid.items.now
    of-payouts = payouts-read paid.items.now paid.count p

    of-backings : BackedOf file place debits.count backed.count backed.items.now
    of-backings = backings-read debits.items.now debits.count l backed.items.now backed.count q.listed

    pub entry-read : (ps : List ℕ) → ps ≡ paid.items.now → (bs : List ℕ) → bs ≡ backed.items.now →
        Read file (record { place = place; debits = debits.count; total = backed.count; payouts = paid.count; backed = bs; paid = ps })
    entry-read ps e bs f =
        record {
          small = c.small;
          inside = c.inside;
          many = of-payouts.many;
          last = λ h. rw e (of-payouts.last h);
          paid = λ h. rw e (of-payouts.paid h);
          counted = of-backings.counted;
          all = of-backings.all;
          listed = λ h. rw f (of-backings.listed h);
          named = λ h i g. rw f (of-backings.named h i g);
        }

-- A table of places, as far as it was filled, by numbers

module _ (file table : List ℕ) (count : ℕ) (fs : List Field) (listed : fields_at file (take count table) ≡ fs) (counted : count ≡ length fs) where
  pub table-long : count ≤ length table
  unfolding fields_at
  table-long =
      let e : length (take count table) ≡ count = sym (length-map (take count table) (λ k. front (drop k file))) ∙ ap length listed ∙ sym counted in
      omega (arith, rw length-take at e)

  pub field-there : (k : ℕ) → k < count → front (drop (get_or table k 0) file) ≡ get_or fs k nothing
  unfolding fields_at
  field-there k h =
      rw (← listed)
      (sym (map_at (λ j. front (drop j file)) (take count table) k nothing 0 (rw (length-take-le count table table-long) h)
      ∙ ap (λ j. front (drop j file)) (get_or-take count table k 0 h)))

-- past questions 10 and 11
pub entered : (file : List ℕ) (e : Entry) → Read file e → e.payouts ≤ 64 → e.total ≤ 64 → Entered file e
entered file e r h g =
    record {
      small = r.small;
      inside = r.inside;
      many = r.many;
      limit = h;
      paid = r.paid h;
      counted = r.counted;
      all = r.all;
      few = g;
      listed = r.listed g;
      named = r.named g;
    }
