-- The state fields that guards name, by their numbers: the first that holds the token is the first that covers.
use Rattle.std.proofs.Common.{ℕ, zero, suc, ◌+◌, ◌≤◌, ◌<◌, ◌≡◌, refl, sym, ap, ◌∙◌, Bool, true, false, cond, ◌&&◌, List, [], ◌∷◌, map, arith}
use Rattle.std.proofs.Common.{◌++◌, get_or, length, length-append, drop, drop_of_length-le}
use Rattle.std.proofs.Common.{Option, None, Some}
use Rattle.std.specs.Option.{IfSome, option_to_list}
use Rattle.laws.specs.Texts.{same_bytes}
use Rattle.laws.specs.Lists.{any, find, position}
use Rattle.laws.proofs.Texts.{bytes-equal}
use Rattle.laws.proofs.Slices.{drop-step}
use Rattle.fields.specs.Field.{Field, fields, after, front, part}
use Rattle.fields.specs.declared.field.Field.{Field as Found}
use Rattle.fields.specs.declared.named.Named.{Named}
use Rattle.fields.proofs.Reading.{after_less}
use Rattle.model.specs.Model.{state_names}
use Rattle.reserve_tokens.specs.ReserveTokens.{reserve_token}
use Rattle.guards.specs.Guards.{guarded_field}
use Rattle.guards.specs.Bounding.{bounding, bounding_from}
use Rattle.guards.specs.Lowerings.{lowered_in}
use Rattle.reserves.specs.States.{state_name, state_index, state_number}
use Rattle.reserves.specs.Holding.{is_token, holds_token}
use Rattle.reserves.specs.Covers.{index_in, field_covers, first_covering, lowered_number, first_holding, bytes_left, Ahead}

-- One guard

named-there : (r : List ℕ) (l : List (List ℕ)) → any (same_bytes r) l ≡ true → get_or l (position (same_bytes r) l) [] ≡ r
unfolding position
named-there r [] h = cc
named-there r (x ∷ l) h = go (same_bytes r x) refl (named-there r l)
  where
    go : (k : Bool) → same_bytes r x ≡ k → (any (same_bytes r) l ≡ true → get_or l (position (same_bytes r) l) [] ≡ r) →
        get_or (x ∷ l) (cond (same_bytes r x) zero (suc (position (same_bytes r) l))) [] ≡ r
    go true e f = rw e (sym (bytes-equal r x e))
    go false e f = rw e (f (rw e at h))

module _ (file token : List ℕ) (l : List Named) where
  abbrev index : List ℕ → ℕ
  index r = state_index (fields file) r

  abbrev holds : List ℕ → Bool
  holds r = is_token (reserve_token (fields file) r) token

  own-token : (r : List ℕ) → any (same_bytes r) (state_names (fields file)) ≡ true → holds_token file token (index r) ≡ holds r
  unfolding holds_token state_name state_index
  own-token r h = rw (named-there r (state_names (fields file)) h)

  -- a field covers where it is lowered and the one of its number holds the token
  by-number : (r : List ℕ) (left : Option ℕ) →
      cond (field_covers file token l r) (Some (index r)) left ≡ first_holding file token (option_to_list (lowered_number file l r)) left
  unfolding field_covers first_holding lowered_number state_number
  by-number r left = go (lowered_in file r l) (any (same_bytes r) (state_names (fields file))) (own-token r)
    where
      go : (i j : Bool) → (j ≡ true → holds_token file token (index r) ≡ holds r) →
          cond (i && j && holds r) (Some (index r)) left ≡ first_holding file token (option_to_list (cond i (cond j (Some (index r)) None) None)) left
      go true true e = rw (e refl) refl
      go true false e = refl
      go false j e = refl

  one-more : (g : Field) (gs : List Field) (r : List ℕ) → r ≡ guarded_field (part 0 g) →
      first_covering file token l (g ∷ gs) ≡ cond (field_covers file token l r) (Some (state_index (fields file) r)) (first_covering file token l gs)
  unfolding first_covering index_in
  one-more g gs r e = rw (← e) (go (field_covers file token l r))
    where
      go : (k : Bool) → index_in (fields file) (cond k (Some r) (find (field_covers file token l) (map (λ g. guarded_field (part 0 g)) gs)))
          ≡ cond k (Some (state_index (fields file) r)) (index_in (fields file) (find (field_covers file token l) (map (λ g. guarded_field (part 0 g)) gs)))
      go true = refl
      go false = refl

-- Several numbers

module _ (file token : List ℕ) where
  -- those behind others come after them
  holding-append : (ns ms : List ℕ) (left : Option ℕ) → first_holding file token (ns ++ ms) left ≡ first_holding file token ns (first_holding file token ms left)
  unfolding first_holding
  holding-append [] ms left = refl
  holding-append (n ∷ ns) ms left = rw (holding-append ns ms left) refl

  -- the first that holds it is found before those that are left
  holding-or : (ns : List ℕ) (left : Option ℕ) → first_holding file token ns left ≡ elim (first_holding file token ns None) [ None ↦ left | Some i ↦ Some i ]
  unfolding first_holding
  holding-or [] left = refl
  holding-or (n ∷ ns) left = go (holds_token file token n) (holding-or ns left)
    where
      go : (k : Bool) → first_holding file token ns left ≡ elim (first_holding file token ns None) [ None ↦ left | Some i ↦ Some i ] →
          cond k (Some n) (first_holding file token ns left)
          ≡ elim (cond k (Some n) (first_holding file token ns None)) [ None ↦ left | Some i ↦ Some i ]
      go true e = refl
      go false e = e

-- Guard by guard: n are listed

pub record Listing (file : List ℕ) (l : List Named) (amount : Field) (guard : Found) (ahead : Option Found) (numbers : List ℕ) (n : ℕ) : Type 0 where
  pub few : length numbers ≤ n
  pub none : n ≡ 0 → ahead ≡ Some guard
  pub fewer : 0 < n → bytes_left ahead < length guard.part.now
  pub first : (token : List ℕ) → first_covering file token l (bounding_from amount (Some guard))
      ≡ first_holding file token numbers (first_covering file token l (bounding_from amount ahead))

module _ (file : List ℕ) (l : List Named) (amount : Field) (guard : Found) where
  pub listing-none : Listing file l amount guard (Some guard) [] 0
  unfolding first_holding
  listing-none = record { few = omega arith; none = λ e. refl; fewer = λ h. absurd (omega (arith, h)); first = λ token. refl }

  module _ (next : Found) (numbers : List ℕ) (n : ℕ) (v : Listing file l amount guard (Some next) numbers n) where
    no-longer : length next.part.now ≤ length guard.part.now
    no-longer = go n v.none v.fewer
      where
        go : (n : ℕ) → (n ≡ 0 → Some next ≡ Some guard) → (0 < n → length next.part.now < length guard.part.now) → length next.part.now ≤ length guard.part.now
        go zero a b = let e : next ≡ guard = cc (a refl) in rw e (omega arith)
        go (suc n) a b = omega (arith, b (omega arith))

    shorter : (y : List ℕ) → y ≡ after next.part.now → (u : Option Found) → IfSome u (λ g. length g.part.now ≤ length y) → bytes_left u < length guard.part.now
    shorter y e None m = omega (arith, no-longer, after_less next.part.now y next.there e)
    shorter y e (Some g) m = omega (arith, no-longer, after_less next.part.now y next.there e, m)

    pub listing-on : (x : List ℕ) → front x ≡ part 0 (front next.part.now) → (r : List ℕ) → r ≡ guarded_field (front x) →
        (number : Option ℕ) → number ≡ lowered_number file l r → (y : List ℕ) → y ≡ after next.part.now →
        (u : Option Found) → bounding amount (fields y) ≡ bounding_from amount u →
        IfSome u (λ g. length g.part.now ≤ length y) → Listing file l amount guard u (numbers ++ option_to_list number) (n + 1)
    listing-on x a r b number f y e u o m = record {
      few = more number;
      none = λ z. absurd (omega (arith, z));
      fewer = λ z. shorter y e u m;
      first = λ token.
          v.first token
          ∙ ap (first_holding file token numbers) (here token)
          ∙ sym (holding-append file token numbers (option_to_list number) (first_covering file token l (bounding_from amount u)));
    }
      where
        more : (o : Option ℕ) → length (numbers ++ option_to_list o) ≤ n + 1
        more None = rw (length-append numbers []) (omega (arith, v.few))
        more (Some i) = rw (length-append numbers (i ∷ [])) (omega (arith, v.few))

        here : (token : List ℕ) → first_covering file token l (bounding_from amount (Some next))
            ≡ first_holding file token (option_to_list number) (first_covering file token l (bounding_from amount u))
        here token =
            one-more file token l (front next.part.now) (bounding amount (fields (after next.part.now))) r (b ∙ rw a refl)
            ∙ rw (f, ← o, e) (by-number file token l r (first_covering file token l (bounding amount (fields (after next.part.now)))))

-- Number by number

-- none of those that were passed holds the token
pub record Holding (file token numbers : List ℕ) (i : ℕ) : Type 0 where
  pub within : i ≤ length numbers
  pub left : first_holding file token (drop i numbers) None ≡ first_holding file token numbers None

module _ (file token numbers : List ℕ) (i : ℕ) (v : Holding file token numbers i) where
  pub holding-end : length numbers ≤ i → None ≡ first_holding file token numbers None
  unfolding first_holding
  holding-end h = rw (drop_of_length-le numbers {i = i} h) at v.left

  module _ (h : i < length numbers) (n : ℕ) (e : n ≡ get_or numbers i 0) where
    here : cond (holds_token file token n) (Some n) (first_holding file token (drop (i + 1) numbers) None) ≡ first_holding file token numbers None
    unfolding first_holding
    here = rw (drop-step numbers i h, ← e) at v.left

    pub holding-found : holds_token file token n ≡ true → Some n ≡ first_holding file token numbers None
    holding-found g = rw g at here

    pub holding-on : holds_token file token n ≡ false → Holding file token numbers (i + 1)
    holding-on g = record { within = omega arith; left = rw g at here }

-- Some guards, and then those that are left

module _ (file : List ℕ) (l : List Named) (amount : Field) (guard : Found) (left : Option Found) (numbers : List ℕ) (v : Ahead file l amount guard left numbers) (token : List ℕ) where
  abbrev all : Option ℕ
  all = first_covering file token l (bounding_from amount (Some guard))

  abbrev rest : Option ℕ
  rest = first_covering file token l (bounding_from amount left)

  by-first : elim (first_holding file token numbers None) [ None ↦ rest | Some i ↦ Some i ] ≡ all
  by-first = sym (v.first token ∙ holding-or file token numbers rest)

  pub some-covers : (i : ℕ) → Some i ≡ first_holding file token numbers None → Some i ≡ all
  some-covers i e = rw (← e) at by-first

  pub none-covers : None ≡ first_holding file token numbers None → rest ≡ all
  none-covers e = rw (← e) at by-first
