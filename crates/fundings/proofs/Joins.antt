-- A further set is joined to those of the maps that calls fund: call by call it is joined once, since a second time changes nothing.
use Rattle.std.proofs.Common.{ℕ, ◌+◌, ◌≤◌, ◌<◌, ◌≡◌, refl, sym, ap, ◌∙◌, Bool, true, false, cond, ◌&&◌, ◌||◌, List, [], ◌∷◌, ◌++◌, Option, None, Some, arith, eqb-true, eqb}
use Rattle.std.proofs.Common.{add-one, length, get_or, set, take, drop, take_all, take-suc, length-set, drop_of_length-le, append-nil}
use Rattle.std.specs.List.{position, refill}
use Rattle.std.proofs.lemmas.List.Quantifiers.{position-Some}
use mathlib.Core.List.{map-append}
use mathlib.Core.Bool.{and-false, or-false}
use borrow.Author.Tests.{eqb-false}
use Rattle.laws.specs.Texts.{same_bytes}
use Rattle.laws.proofs.Lists.{any_none, any_append}
use Rattle.laws.proofs.Texts.{bytes-equal}
use Rattle.laws.proofs.Truths.{chosen}
use Rattle.tags.specs.Tag.{Call}
use Rattle.fields.specs.Field.{Field, front, part}
use Rattle.fields.specs.Number.{short_number}
use Rattle.fields.specs.Table.{Listed, fields_at}
use Rattle.fields.specs.declared.named.Named.{Named}
use Rattle.fields.specs.declared.table.TableView.{TableView}
use Rattle.walking.specs.Walking.{ident, receiver, exprs, body_exprs, peel, asset_amount_backer}
use Rattle.walking.specs.Assets.{Assets}
use Rattle.walking.proofs.Assets.{any-listed}
use Rattle.walking.specs.Table.{placed_at, places_of}
use Rattle.tokens.specs.Tokens.{is_inflow, is_funding}
use Rattle.tokens.specs.Numbers.{token_of, joined, tokens_number}
use Rattle.tokens.proofs.Joining.{joined-again, joined-first, joined-empty}
use Rattle.fundings.specs.declared.funder.Funder.{Funder}
use Rattle.fundings.specs.declared.ledger.Funding.{Funding}
use Rattle.fundings.specs.Fundings.{is_funding_call, funded_by, is_map, number_of_map, joined_if, Joins, EntryJoins}
use Rattle.fundings.proofs.Calls.{calls-front, funding-either, funding-named, funding-inside, calls-fund, none-funds, first-on}
use Rattle.fundings.proofs.Maps.{number-there, number-written, number-behind, number-empty, none-passes}

module _ (file : List ℕ) (further : ℕ) where
  joined_twice : (a b : Bool) (s : ℕ) → joined_if file b (joined_if file a s further) further ≡ joined_if file (a || b) s further
  joined_twice true true s = joined-again file s further
  joined_twice true false s = refl
  joined_twice false b s = refl

  module _ (old : List Funding) where
    -- no map is funded
    pub joins-none : (f : List ℕ → Bool) → ((m : List ℕ) → f m ≡ false) → Joins file f further old old
    joins-none f e m = rw (e m)

    module _ (f : List ℕ → Bool) (last : List Funding) (j : Joins file f further old last) where
      -- the same maps, told in another way
      pub joins-same : (g : List ℕ → Bool) → ((m : List ℕ) → f m ≡ g m) → Joins file g further old last
      joins-same g e m = rw (← e m) (j m)

      -- some maps and then others
      pub joins-then : (g : List ℕ → Bool) (u : List Funding) → Joins file g further last u → Joins file (λ m. f m || g m) further old u
      joins-then g u i m = i m ∙ rw (j m) (joined_twice (f m) (g m) (number_of_map file m old))

-- a list that is written anew as a whole
refill-whole : {A : Type 0} (old new : List A) → length new ≡ length old → refill (length old) old new ≡ new
refill-whole old new e = rw (drop_of_length-le old {i = length new} (omega (arith, e)), append-nil new) (take_all (length old) new (omega (arith, e)))

-- One map x, by the place of its name

module _ (file : List ℕ) (old : List Funding) (place named : ℕ) (s : List ℕ) (e : s ≡ drop place file) (x : List ℕ) (f : x ≡ ident (front s)) where
  abbrev Joined : List Funding → Type 0
  Joined last = Joins file (same_bytes (ident (front (drop place file)))) named old last

  here : ident (front (drop place file)) ≡ x
  here = rw (← e) (sym f)

  -- of the map itself what was joined, of any other what it had
  told : (m : List ℕ) (v : ℕ) → v ≡ joined file (number_of_map file x old) named →
      cond (same_bytes x m) v (number_of_map file m old) ≡ joined_if file (same_bytes x m) (number_of_map file m old) named
  told m v g = go (same_bytes x m) refl
    where
      go : (b : Bool) → same_bytes x m ≡ b → cond b v (number_of_map file m old) ≡ joined_if file b (number_of_map file m old) named
      go true h = g ∙ rw (bytes-equal x m h)
      go false h = refl

  module _ (ls : List Funding) (a : ls ≡ old) (r : Option ℕ) (b : r ≡ position (is_map file x) ls) where
    -- it is listed
    module _ (i : ℕ) (h : r ≡ Some i) (d : Funding) where
      pub join-written : (us ws : List Funding) → us ≡ old → ws ≡ old → (v : ℕ) → v ≡ joined file (get_or us i d).tokens named →
          Joined (refill (length old) old (set ws i (record { number = (get_or ws i d).number; place = (get_or ws i d).place; tokens = v })))
      join-written us ws p q v g m =
          let o = position-Some (is_map file x) old i d (ap (position (is_map file x)) (sym a) ∙ sym b ∙ h) in
          let n : Funding = record { number = (get_or old i d).number; place = (get_or old i d).place; tokens = v } in
          let u : v ≡ joined file (number_of_map file x old) named = g ∙ rw (p, number-there file x old i d o.0 o.1 o.2) in
          rw (here, q, refill-whole old (set old i n) (length-set old i n))
          (number-written file x m old i d o.0 o.1 o.2 n refl refl ∙ told m v u)

    -- it is not
    module _ (h : r ≡ None) where
      first : named ≡ joined file 0 named
      first = go (eqb named 0) refl
        where
          go : (b : Bool) → eqb named 0 ≡ b → named ≡ joined file 0 named
          go true q = let z : named ≡ 0 = eqb-true named 0 q in z ∙ joined-empty file 0 named z
          go false q = joined-first file 0 named (eqb-false named 0 q) refl

      pub join-listed : (number : ℕ) → number ≡ short_number x → (last : List Funding) →
          last ≡ old ++ record { number = number; place = place; tokens = named } ∷ [] → Joined last
      join-listed number g last l m =
          let n = none-passes (is_map file x) old (ap (position (is_map file x)) (sym a) ∙ sym b ∙ h) in
          rw (here, l)
          (number-behind file x m old n (record { number = number; place = place; tokens = named }) g here
          ∙ told m named (rw (number-empty file x old n) first))

-- a set of two bytes, joined to another
pub joined-small : (file : List ℕ) (a b : ℕ) → a < 65536 → b < 65536 → (r : ℕ) → r ≡ joined file a b → r < 65536
unfolding joined
joined-small file a b h k r e =
    let Small : ℕ → Type 0 = λ n. n < 65536 in
    rw e
    (chosen Small (eqb b 0) h (chosen Small (eqb a 0) k (chosen Small (same_bytes (token_of file a) (token_of file b)) h (omega arith))))

-- Call by call

one_call : (e f : Field) (m : List ℕ) → funded_by e (f ∷ []) m ≡ is_funding_call e f && same_bytes (receiver f) m
unfolding funded_by
one_call e f m = or-false (is_funding m e f) ∙ funding-either m e f

module _ (file : List ℕ) (e : Field) (further : ℕ) where
  -- the first i
  abbrev pub Joining : (calls : List ℕ) (old : List Funding) (i : ℕ) (last : List Funding) → Type 0
  Joining calls old i last = Joins file (funded_by e (fields_at file (take i calls))) further old last

  module _ (calls : List ℕ) (old : List Funding) where
    pub joining-none : Joining calls old 0 old
    unfolding funded_by fields_at
    joining-none = joins-none file further old _ (λ m. refl)

    module _ (i : ℕ) (last : List Funding) (j : Joining calls old i last) where
      pub joining-done : length calls ≤ i → Joins file (funded_by e (fields_at file calls)) further old last
      joining-done h = rw (take_all i calls h) at j

      pub joining-on : i < length calls → (call : ℕ) → call ≡ get_or calls i 0 → (u : List Funding) →
          Joins file (funded_by e (front (drop call file) ∷ [])) further last u → Joining calls old (i + 1) u
      unfolding funded_by fields_at
      joining-on h call g u q =
          joins-same file further old _ u (joins-then file further old _ last j _ u q) _ (λ m.
          rw (
            add-one i,
            take-suc calls i 0 h,
            ← g,
            map-append (λ k. front (drop k file)) (take i calls) (call ∷ []),
            any_append (is_funding m e) (fields_at file (take i calls)) (front (drop call file) ∷ []),
          ))

-- what is known of an entry whose calls may fund maps
pub funder-known : (e : Funder) → (length e.entry.file.now ≤ 32768) × Assets (drop e.entry.place e.entry.file.now) e.assets
funder-known e = (e.entry.short, e.listed)

-- A call of the entry at a place
module _ (file : List ℕ) (n call : ℕ) (b : Bool) (g : b ≡ is_funding_call (front (drop n file)) (front (drop call file))) (further : ℕ) (old : List Funding) where
  abbrev pub call_there : Field
  call_there = front (drop call file)

  -- that funds no map
  pub joins-nothing : b ≡ false → Joins file (funded_by (front (drop n file)) (call_there ∷ [])) further old old
  joins-nothing h = joins-none file further old _ (λ m. one_call (front (drop n file)) call_there m ∙ rw (← g, h))

  -- and one that funds its own
  funds-one : b ≡ true → is_funding_call (front (drop n file)) call_there ≡ true
  funds-one h = rw (← g) h

  pub joins-own : b ≡ true → (last : List Funding) → Joins file (same_bytes (ident (front (drop (call + 6) file)))) further old last →
      Joins file (funded_by (front (drop n file)) (call_there ∷ [])) further old last
  joins-own h last i =
      joins-same file further old _ last i _
      (λ m. sym (one_call (front (drop n file)) call_there m ∙ rw (← funding-named file (front (drop n file)) call (funds-one h), funds-one h)))

  -- which stands in the file
  pub call-small : b ≡ true → length file ≤ 32768 → call < 32768
  call-small h short = omega (arith, short, funding-inside file (front (drop n file)) call (funds-one h))

-- All calls of the entry

module _ (file : List ℕ) (n : ℕ) (h : length file ≤ 32768) (old : List Funding) where
  abbrev entry : Field
  entry = front (drop n file)

  -- one without asset parameters
  module _ (assets : TableView Named) (a : Assets (drop n file) assets) (z : assets.count ≡ 0) where
    no_call : (m : List ℕ) (f : Field) → is_funding m entry f ≡ false
    unfolding is_funding_call is_inflow
    no_call m f =
        let none = any-listed (drop n file) (asset_amount_backer (peel (part 2 f))) assets a (rw z (omega arith)) [] (rw z refl) in
        funding-either m entry f ∙ rw (← none, and-false)

    pub joins-unasked : EntryJoins file n old old
    unfolding funded_by
    joins-unasked = joins-none file (tokens_number file (placed_at file n)) old _ (λ m. any_none (is_funding m entry) (no_call m) (exprs entry))

  module _ (zeros calls : List ℕ) (count : ℕ) (l : Listed (places_of Call (body_exprs (placed_at file n))) zeros 0 calls count) (w : count ≤ length zeros)
      (ks : List ℕ) (c : ks ≡ take count calls) where
    calls-decide : (m : List ℕ) → funded_by entry (fields_at file ks) m ≡ funded_by entry (exprs entry) m
    calls-decide m = rw (c, calls-front file n zeros calls count l w) (calls-fund file n (omega (arith, h)) m)

    module _ (named : ℕ) (t : named ≡ tokens_number file (placed_at file n)) (last : List Funding) where
      pub joins-all : Joins file (funded_by entry (fields_at file ks)) named old last → EntryJoins file n old last
      joins-all p = rw (← t) (joins-same file named old _ last p _ calls-decide)

      -- none before the first that funds some map funds any
      pub joins-from : (i : ℕ) → position (λ call. is_funding_call entry (front (drop call file))) ks ≡ Some i →
          (d : List ℕ) → d ≡ drop i ks → Joins file (funded_by entry (fields_at file d)) named old last → EntryJoins file n old last
      joins-from i a d e p =
          rw (← t) (joins-same file named old _ last p _ (λ m. rw e (first-on file entry ks i a m ∙ calls-decide m)))

    -- and none at all where there is none
    pub joins-free : position (λ call. is_funding_call entry (front (drop call file))) ks ≡ None → EntryJoins file n old old
    joins-free a =
        joins-none file (tokens_number file (placed_at file n)) old _ (λ m. sym (calls-decide m) ∙ none-funds file entry ks a m)
