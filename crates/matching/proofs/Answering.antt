-- Each step of the answer is the definition's: the search finds what the definition finds, or leaves the rest to the next step.
use Rattle.std.proofs.Common.{ℕ, ◌≡◌, refl, sym, ap, ◌∙◌, Bool, true, false, not, ◌||◌, List, [], ◌∷◌, reverse, eqb, ltb, get_or, drop}
use Rattle.std.proofs.Common.{Option, None, Some}
use Rattle.std.specs.Option.{unwrap_or}
use borrow.Author.Tests.{not-true}
use Rattle.std.proofs.lemmas.List.{reverse-append}
use Rattle.laws.specs.Texts.{same_bytes}
use Rattle.std.specs.Prelude.{Result, Ok, Err}
use Rattle.laws.specs.Lists.{any, position}
use Rattle.laws.proofs.Lists.{any_append}
use Rattle.fields.specs.Field.{Field, Fields, fields, front}
use Rattle.model.specs.Model.{state_names}
use Rattle.walking.specs.Walking.{peel, present}
use Rattle.tokens.specs.Tokens.{differ}
use Rattle.guards.specs.Payouts.{payout_token, payout_amount}
use Rattle.guards.specs.Asked.{asked_token, paid_at, asked_amount}
use Rattle.entries.specs.Entered.{entry_of}
use Rattle.entries.specs.declared.entry.Entry.{Entry}
use Rattle.reserves.specs.Reserves.{reserve_bounding_payout}
use Rattle.reserves.specs.States.{state_index}
use Rattle.reserves.specs.Covers.{index_in}
use Rattle.backings.specs.Tables.{token_at, equal_to, bounded_by, asked_by, first_free, any_taken}
use Rattle.backings.specs.Marked.{used_of}
use Rattle.backings.specs.declared.marks.Test.{Test}
use Rattle.backings.specs.declared.marks.Test.TheVariants.{Equals, Bounds}
use Rattle.backings.specs.declared.marks.Marks.{Marks as Coded}
use Rattle.matching.specs.Matching as matching
use Rattle.matching.specs.Matching.{Backing, Marks, equals, bounds, equal_cover, bounding_cover, take_backing, take_reserve, by_reserve, by_bounding, not_taken, by_equal, answer}
use Rattle.matching.specs.Standing.{marks_of, backings_of, backing_at}
use Rattle.matching.specs.Prepared.{Ready, payout_at}
use Rattle.matching.specs.Coded.{coded, coded_cover, coded_reason, answered, equal_at, bounding_at, cover_at, conflict_at, step_by, next_step, reserve_at}
use Rattle.matching.specs.declared.answer.Cover.{Cover}
use Rattle.matching.specs.declared.answer.Cover.TheVariants.{Reserve}
use Rattle.matching.specs.declared.answer.Reason.{Reason}
use Rattle.matching.specs.declared.answer.Reason.TheVariants.{SplitWithoutAmount, ConflictAtEqual, AmountTaken, ConflictAtBounding, NoReserve, ReserveUsed}
use Rattle.matching.specs.declared.answer.Pass.{Pass}
use Rattle.matching.specs.declared.payout.Payout.{Payout}
use Rattle.matching.proofs.Steps.{passes, cover_by, conflict_by, split_step, answer-step, taken_step, untaken-step, backing-step, no-backing-step, reserve-step, no-reserve-step, conflict-step}
use Rattle.matching.proofs.Steps.{take_step}
use Rattle.matching.proofs.Found.{free-some, free-none, taken-some}

-- the order makes no difference to a search
any-reverse : (f : ℕ → Bool) (l : List ℕ) → any f (reverse l) ≡ any f l
any-reverse f [] = refl
any-reverse f (x ∷ l) = ap (any f) (reverse-append (x ∷ []) l) ∙ any_append f (reverse l) (x ∷ []) ∙ rw (any-reverse f l) (last (any f l) (f x))
  where
    last : (a b : Bool) → a || (b || false) ≡ b || a
    last true true = refl
    last true false = refl
    last false true = refl
    last false false = refl

-- the cover by backing number i
module _ (file : List ℕ) (en : Entry) (i : ℕ) where
  pub equal-coded : coded_cover (equal_cover (backing_at file en i)) ≡ equal_at en.debits i
  unfolding backing_at equal_at
  equal-coded = go (ltb i en.debits) refl
    where
      go : (b : Bool) → ltb i en.debits ≡ b → coded_cover (equal_cover (backing_at file en i)) ≡ equal_at en.debits i
      go true e = rw e
      go false e = rw e

  pub bounding-coded : coded_cover (bounding_cover (backing_at file en i)) ≡ bounding_at en.debits i
  unfolding backing_at bounding_at
  bounding-coded = go (ltb i en.debits) refl
    where
      go : (b : Bool) → ltb i en.debits ≡ b → coded_cover (bounding_cover (backing_at file en i)) ≡ bounding_at en.debits i
      go true e = rw e
      go false e = rw e

  pub cover-coded : (t : Test) → coded_cover (cover_by t (backing_at file en i)) ≡ cover_at t en.debits i
  cover-coded Equals = equal-coded
  cover-coded Bounds = bounding-coded

conflict-coded : (t : Test) → coded_reason (conflict_by t) ≡ conflict_at t
conflict-coded Equals = refl
conflict-coded Bounds = refl

-- the tests of a payout's backings are tests of their amounts
pub equals-amount : (p : Field) (b : Backing) → equals p b ≡ equal_to (payout_amount p) b.amount
unfolding equals equal_to
equals-amount p b = refl

pub bounds-amount : (p : Field) (b : Backing) → bounds p b ≡ bounded_by (payout_amount p) b.amount
unfolding bounds bounded_by
bounds-amount p b = refl

pub passes-amount : (t : Test) (p : Field) (b : Backing) → passes t p b ≡ asked_by t (payout_amount p) b.amount
passes-amount Equals = equals-amount
passes-amount Bounds = bounds-amount

-- The steps for the k-th payout, as the code reads it

module _ (file : List ℕ) (p : Payout) (pass : Pass) (w : Ready file p pass) where
  abbrev en : Entry
  en = p.entry.now

  abbrev k : ℕ
  k = p.k

  abbrev model : Fields
  model = fields file

  abbrev entry : Field
  entry = entry_of file en.place

  abbrev marks : Marks
  marks = marks_of (backings_of file en.place) pass.marks

  abbrev payout : Field
  payout = payout_at file en k

  abbrev by : (Fields → Field → Marks → Field → matching.Answer) → Result Cover Reason
  by step = answered step file p pass.marks

  module _ (s : List ℕ) (z : s ≡ drop (get_or en.paid k 0) file) where
    -- a backing, the first free one that passes a test
    module _ (t : Test) (o : Option ℕ) (f : o ≡ first_free file en pass.marks (asked_by t (payout_amount (front s)))) where
      abbrev test : Field → Bool
      test = asked_by t (payout_amount payout)

      first : o ≡ first_free file en pass.marks test
      first = rw (← z) f

      pub backing-none : o ≡ None → by (next_step t) ≡ by (step_by t)
      unfolding marks_of
      backing-none h =
          sym (ap coded (no-backing-step model entry marks payout t
          (free-none file en w.entered pass.marks test (passes t payout) (passes-amount t payout) (sym first ∙ h))))

      module _ (i : ℕ) (h : o ≡ Some i) (b : Bool) (g : b ≡ differ (token_at file en i) (payout_token (front s))) where
        token : differ (backing_at file en i).token (payout_token payout) ≡ b
        unfolding backing_at
        token = rw (← z) (sym g)

        found : step_by t model entry marks payout ≡ take_backing marks payout (passes t payout) (backing_at file en i) (cover_by t (backing_at file en i)) (conflict_by t)
        unfolding marks_of
        found =
            backing-step model entry marks payout t (backing_at file en i)
            (free-some file en w.entered pass.marks test (passes t payout) (passes-amount t payout) i (sym first ∙ h))

        pub backing-conflict : b ≡ true → (r : Reason) → r ≡ conflict_at t → Err r ≡ by (step_by t)
        unfolding coded
        backing-conflict n r j =
            ap (λ a. Err a) (j ∙ sym (conflict-coded t))
            ∙ sym (ap coded (found ∙ conflict-step marks payout (passes t payout) (backing_at file en i) _ _ (token ∙ n)))

        pub backing-covers : b ≡ false → (c : Cover) → c ≡ cover_at t en.debits i → Ok c ≡ by (step_by t)
        unfolding coded
        backing-covers n c j =
            ap (λ a. Ok a) (j ∙ sym (cover-coded file en i t))
            ∙ sym (ap coded (found ∙ take_step marks payout (passes t payout) (backing_at file en i) _ _ (token ∙ n)))

    -- one that equals the amount
    module _ (o : Option ℕ) (f : o ≡ first_free file en pass.marks (equal_to (payout_amount (front s)))) where
      pub equal-none : o ≡ None → (a : Result Cover Reason) → a ≡ by not_taken → a ≡ by by_equal
      equal-none h a e = e ∙ backing-none Equals o f h

      module _ (i : ℕ) (h : o ≡ Some i) (b : Bool) (g : b ≡ differ (token_at file en i) (payout_token (front s))) where
        pub equal-conflict : b ≡ true → Err ConflictAtEqual ≡ by by_equal
        equal-conflict n = backing-conflict Equals o f i h b g n ConflictAtEqual refl

        pub equal-covers : b ≡ false → (c : Cover) → c ≡ equal_at en.debits i → Ok c ≡ by by_equal
        equal-covers = backing-covers Equals o f i h b g

    -- and one that bounds it
    module _ (o : Option ℕ) (f : o ≡ first_free file en pass.marks (bounded_by (payout_amount (front s))))
        (i : ℕ) (h : o ≡ Some i) (b : Bool) (g : b ≡ differ (token_at file en i) (payout_token (front s))) where
      pub bounding-conflict : b ≡ true → Err ConflictAtBounding ≡ by by_bounding
      bounding-conflict n = backing-conflict Bounds o f i h b g n ConflictAtBounding refl

    -- a split without an amount
    module _ (x : List ℕ) (e : front x ≡ payout_amount (front s)) (there : Bool) (f : there ≡ present (front x)) where
      is-there : present (payout_amount payout) ≡ there
      is-there = rw (← z, ← e) (sym f)

      pub answer-split : not there ≡ true → Err SplitWithoutAmount ≡ by answer
      unfolding coded
      answer-split n = sym (ap coded (split_step model entry marks payout (is-there ∙ not-true there n)))

      -- what an equal backing decides, or the next step
      module _ (y : there ≡ true) (o : Option (Result Cover Reason)) (q : unwrap_or o (by not_taken) ≡ by by_equal) where
        past-split : by by_equal ≡ by answer
        past-split = sym (ap coded (answer-step model entry marks payout (is-there ∙ y)))

        pub answer-equal : (a : Result Cover Reason) → o ≡ Some a → a ≡ by answer
        answer-equal a h = (rw h at q) ∙ past-split

        -- a taken one that equals it
        module _ (h : o ≡ None) (m : Coded) (same : m ≡ pass.marks) (b : Bool) (g : b ≡ any_taken file en m (equal_to (payout_amount (front s)))) where
          past-equal : by not_taken ≡ by answer
          past-equal = (rw h at q) ∙ past-split

          taken_is : any (equal_to (payout_amount payout)) marks.taken ≡ b
          unfolding marks_of
          taken_is =
              sym (taken-some file en w.entered pass.marks (equal_to (payout_amount payout)) (equals payout) (equals-amount payout))
              ∙ rw (← z) (sym (rw same at g))

          pub answer-taken : b ≡ true → Err AmountTaken ≡ by answer
          unfolding coded
          answer-taken l = sym (ap coded (taken_step model entry marks payout (taken_is ∙ l))) ∙ past-equal

          -- what a bounding one decides, or the last step
          module _ (l : b ≡ false) (u : Option (Result Cover Reason))
              (v : unwrap_or u (answered by_reserve file p m) ≡ answered by_bounding file p m) where
            past-taken : answered by_bounding file p m ≡ by answer
            past-taken = rw same (sym (ap coded (untaken-step model entry marks payout (taken_is ∙ l))) ∙ past-equal)

            pub answer-bounding : (a : Result Cover Reason) → u ≡ Some a → a ≡ by answer
            answer-bounding a j = (rw j at v) ∙ past-taken

            pub answer-reserve : u ≡ None → (n : Coded) → n ≡ m → (a : Result Cover Reason) → a ≡ answered by_reserve file p n → a ≡ by answer
            answer-reserve j n i a c = c ∙ rw i ((rw j at v) ∙ past-taken)

  -- a reserve
  used-coded : (i : ℕ) → coded (take_reserve marks i) ≡ reserve_at pass.marks i
  unfolding take_reserve reserve_at marks_of coded
  used-coded i = go (any (eqb i) (used_of pass.marks)) refl
    where
      go : (b : Bool) → any (eqb i) (used_of pass.marks) ≡ b → coded (take_reserve marks i) ≡ reserve_at pass.marks i
      go true h = rw (any-reverse (eqb i) (used_of pass.marks), h)
      go false h = rw (any-reverse (eqb i) (used_of pass.marks), h)

  abbrev covering : Option (List ℕ)
  covering = reserve_bounding_payout model entry (asked_amount file en.paid k) (asked_token file en.paid k)

  asked-for : reserve_bounding_payout model entry (peel (payout_amount payout)) (payout_token payout) ≡ covering
  unfolding asked_amount paid_at asked_token
  asked-for = refl

  module _ (r : Option ℕ) (g : r ≡ index_in model covering) where
    pub reserve-none : r ≡ None → Err NoReserve ≡ by by_reserve
    unfolding coded index_in
    reserve-none h = go covering refl
      where
        go : (o : Option (List ℕ)) → covering ≡ o → Err NoReserve ≡ by by_reserve
        go None o = sym (ap coded (no-reserve-step model entry marks payout (asked-for ∙ o)))
        go (Some n) o = cc

    pub reserve-covers : (i : ℕ) → r ≡ Some i → (a : Result Cover Reason) → a ≡ reserve_at pass.marks i → a ≡ by by_reserve
    unfolding index_in state_index
    reserve-covers i h a j = go covering refl
      where
        go : (o : Option (List ℕ)) → covering ≡ o → a ≡ by by_reserve
        go None o = cc
        go (Some n) o =
            let z : i ≡ position (same_bytes n) (state_names model) = cc in
            j ∙ sym (used-coded i) ∙ rw z (sym (ap coded (reserve-step model entry marks payout n (asked-for ∙ o))))

-- a reserve that is used, and one that is not
module _ (m : Coded) (i : ℕ) (b : Bool) (e : b ≡ any (eqb i) (used_of m)) where
  pub reserve-used : b ≡ true → Err ReserveUsed ≡ reserve_at m i
  unfolding reserve_at
  reserve-used h = rw (← e, h)

  pub reserve-unused : b ≡ false → Ok (Reserve i) ≡ reserve_at m i
  unfolding reserve_at
  reserve-unused h = rw (← e, h)
