-- Only a member can be `p.amount`, so a table of the members in an amount has all that matter. An asset parameter without a
-- name is the exception: what is no `p.amount` names it.
use Rattle.std.proofs.Common.{ℕ, ◌+◌, ◌*◌, ◌≤◌, ◌≡◌, refl, sym, ◌∙◌, Bool, true, false, cond, ◌&&◌, List, [], ◌∷◌, ◌++◌, arith, leb-true, eqb-true, eqb, ap, length, take, drop}
use mathlib.Core.List.{map-append}
use Rattle.laws.specs.Texts.{same_bytes, bytes}
use Rattle.laws.specs.Lists.{any}
use Rattle.laws.proofs.Truths.{or_left, or-either}
use Rattle.laws.proofs.Lists.{any_left, any-first, any-map}
use Rattle.tags.specs.Tag.{Member, Identifier, is_expression}
use Rattle.fields.specs.Table.{Listed, fields_at}
use Rattle.fields.specs.declared.table.Table.{Table}
use Rattle.fields.specs.Field.{Field, Fields, length_of, whole, front, tag, text, part, nth, size}
use Rattle.fields.specs.Field.Field.{field}
use Rattle.fields.specs.Field.Fields.{end, next}
use Rattle.fields.proofs.Reading.{front-none}
use Rattle.fields.proofs.Places.{front-size}
use Rattle.fields.proofs.Tables.{listed-front, listed-long}
use Rattle.walking.specs.Walking.{walk, walk_parts, without_places, ident, asset_amount_backer, asset_params}
use Rattle.walking.specs.Table.{places_of}
use Rattle.walking.proofs.Callers.{expression-few, expression-read}
use Rattle.tokens.specs.Tokens.{is_inflow}
use Rattle.guards.specs.Guards.{contains_inflow}
use Rattle.guards.specs.Members.{members_in, member_inflow}

abbrev is_member : Field → Bool
is_member f = eqb (tag f) Member

member-only : (entry : Field) → any (same_bytes []) (asset_params entry) ≡ false → (f : Field) → is_inflow entry f ≡ true → is_member f ≡ true
unfolding is_inflow asset_amount_backer
member-only entry n f h = go (is_member f) refl
  where
    go : (k : Bool) → is_member f ≡ k → is_member f ≡ true
    go true e = e
    go false e = cc

-- An asset parameter without a name

module _ (entry : Field) (z : any (same_bytes []) (asset_params entry) ≡ true) where
  unnamed : (f : Field) → asset_amount_backer f ≡ [] → is_inflow entry f ≡ true
  unfolding is_inflow
  unnamed f e = rw e z

  identifier-unnamed : (f : Field) → eqb (tag f) Identifier ≡ true → is_inflow entry f ≡ true
  unfolding asset_amount_backer
  identifier-unnamed f e = unnamed f (rw (eqb-true (tag f) Identifier e))

  either_way : (k : Bool) (x : List ℕ) → x ≡ [] → cond k x [] ≡ []
  either_way true x e = e
  either_way false x e = refl

  base-decides : (f : Field) → eqb (tag (part 0 f)) Identifier ≡ false → is_inflow entry f ≡ true
  unfolding asset_amount_backer ident
  base-decides f e =
      let i : ident (part 0 f) ≡ [] = rw e in
      unnamed f (either_way (eqb (tag f) Member && same_bytes (text (part 1 f)) (bytes "amount")) (ident (part 0 f)) i)

  walked-first : (n : ℕ) (f : Field) → eqb (tag f) Identifier ≡ true → any (is_inflow entry) (without_places (walk n f)) ≡ true
  unfolding walk is_expression
  walked-first n (field t x ps) e = rw (eqb-true t Identifier e) (or_left _ _ (identifier-unnamed (field 0x33 x ps) refl))

  inside : (n t : ℕ) (x : List ℕ) (ps : Fields) → is_inflow entry (field t x ps) ≡ false → any (is_inflow entry) (without_places (walk_parts n ps)) ≡ true
  unfolding walk_parts nth
  inside n t x (end r) h = cc (base-decides (field t x (end r)) refl)
  inside n t x (next f fs) h = go (eqb (tag f) Identifier) refl
    where
      go : (k : Bool) → eqb (tag f) Identifier ≡ k → any (is_inflow entry) (without_places (walk n f ++ walk_parts (n + size f) fs)) ≡ true
      go true e =
          rw (map-append (λ p. p.this) (walk n f) (walk_parts (n + size f) fs))
          (any_left (is_inflow entry) (without_places (walk n f)) _ (walked-first n f e))
      go false e = cc (base-decides (field t x (next f fs)) e)

  every-expression : (f : Field) → is_expression (tag f) ≡ contains_inflow entry f
  unfolding contains_inflow walk
  every-expression (field t x ps) = go (is_expression t)
    where
      go : (k : Bool) → k ≡ any (is_inflow entry) (without_places (cond k (record { place = 0; this = field t x ps } ∷ walk_parts 3 ps) []))
      go true = sym (or-either _ _ (inside 3 t x ps))
      go false = refl

-- as the code tests it
pub nameless : (entry amount : List ℕ) (b : Bool) → b ≡ any (same_bytes []) (asset_params (front entry)) → b ≡ true →
    (t : ℕ) → t ≡ tag (front amount) → (r : Bool) → r ≡ is_expression t → r ≡ contains_inflow (front entry) (front amount)
nameless entry amount b e h t f r g = g ∙ rw f (every-expression (front entry) (sym e ∙ h) (front amount))

-- The members in the amount

-- each takes three bytes at least, so a table with a number for each three bytes has room for all
members-few : (s : List ℕ) → 3 * length (places_of Member (walk 0 (front s))) ≤ length s
unfolding walk is_expression
members-few s = go (whole s) refl
  where
    few : 3 * length (places_of Member (walk 0 (front s))) ≤ size (front s)
    few = expression-few 0 (front s) Member

    go : (w : Bool) → whole s ≡ w → 3 * length (places_of Member (walk 0 (front s))) ≤ length s
    go true w = omega (arith, few, front-size s w, leb-true (3 + length_of s) (length s) w)
    go false w = rw (front-none s w) (omega arith)

pub members-room : (s table members : List ℕ) (count : ℕ) → Listed (places_of Member (walk 0 (front s))) table 0 members count →
    length s ≤ 3 * length table → count ≤ length members
members-room s table members count l k = let w = listed-long l in omega (arith, w, l.count, members-few s, k)

pub members-read : (s table : List ℕ) (last : Table ℕ) → Listed (places_of Member (walk 0 (front s))) table 0 last.items.now last.count →
    length s ≤ 3 * length table → length s ≤ 32768 → (members : List ℕ) → members ≡ take last.count last.items.now → fields_at s members ≡ members_in (front s)
unfolding members_in fields_at
members-read s table last l k h members e =
    rw (e, listed-front (places_of Member (walk 0 (front s))) table last.items.now last.count l (omega (arith, l.count, members-few s, k)))
    (expression-read s Member (omega arith))

-- so the members decide
pub by_members : (entry amount : Field) (b : Bool) → b ≡ any (same_bytes []) (asset_params entry) → b ≡ false →
    (r : Bool) → r ≡ member_inflow entry amount → r ≡ contains_inflow entry amount
unfolding member_inflow members_in contains_inflow
by_members entry amount b e f r g =
    g ∙ any-first (is_inflow entry) is_member (member-only entry (sym e ∙ f)) (without_places (walk 0 amount))

pub members-any : (entry : Field) (s members : List ℕ) → fields_at s members ≡ members_in (front s) →
    any (λ n. is_inflow entry (front (drop n s))) members ≡ member_inflow entry (front s)
unfolding member_inflow fields_at
members-any entry s members e = sym (any-map (λ n. front (drop n s)) (is_inflow entry) members) ∙ ap (any (is_inflow entry)) e
