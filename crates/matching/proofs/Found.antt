-- What a search by number finds is what the definition finds among the free backings, or the taken ones.
use Rattle.std.proofs.Common.{ℕ, zero, suc, ◌+◌, ◌≤◌, ◌<◌, ◌≡◌, refl, sym, ap, ◌∙◌, Bool, true, false, cond, ◌||◌, List, arith, add-one, zero-add, lt-ltb, le-ltb, ltb-true, ltb-false, ltb, length}
use mathlib.Core.Path.{fun_ext}
use mathlib.Core.Bool.{false≢true}
use Rattle.std.proofs.Common.{None, Some}
use Rattle.std.specs.List.{range_with_len}
use Rattle.laws.proofs.Finding.{any_some, any-not-found}
use Rattle.laws.proofs.Lists.{any-map}
use Rattle.laws.specs.Numbers.{chosen_by, first_from}
use Rattle.laws.specs.Lists.{any, find}
use Rattle.laws.proofs.Chosen.{chosen_at, first-same, chosen-found, chosen-not-found}
use Rattle.fields.specs.Field.{Field}
use Rattle.entries.specs.declared.entry.Entry.{Entry}
use Rattle.backings.specs.Marked.{free_at, taken_at}
use Rattle.entries.specs.Entered.{Entered}
use Rattle.backings.specs.Tables.{free_in, taken_in, first_free, any_taken}
use Rattle.backings.specs.declared.marks.Marks.{Marks as Coded}
use Rattle.matching.specs.Matching.{Backing}
use Rattle.matching.specs.Standing.{amounts, backings_of, backing_at}
use Rattle.matching.proofs.Backed.{no_backing, backings-many, backing-is}

-- a search over the numbers from a on finds the first that passes
module _ (p : ℕ → Bool) where
  range-find : (a n : ℕ) → find p (range_with_len a n) ≡ cond (ltb (first_from p a n) (a + n)) (Some (first_from p a n)) None
  unfolding first_from
  range-find a zero = rw (le-ltb a (a + 0) (omega arith))
  range-find a (suc n) = go (p a) (rw add-one (range-find (suc a) n))
    where
      go : (b : Bool) → find p (range_with_len (a + 1) n) ≡ cond (ltb (first_from p (suc a) n) (suc a + n)) (Some (first_from p (suc a) n)) None →
          cond b (Some a) (find p (range_with_len (a + 1) n)) ≡ cond (ltb (cond b a (first_from p (suc a) n)) (a + suc n)) (Some (cond b a (first_from p (suc a) n))) None
      go true e = rw (lt-ltb a (a + suc n) (omega arith))
      go false e = let k : suc a + n ≡ a + suc n = omega arith in rw k at e

  range-any : (a n : ℕ) → any p (range_with_len a n) ≡ ltb (first_from p a n) (a + n)
  unfolding first_from
  range-any a zero = sym (le-ltb a (a + 0) (omega arith))
  range-any a (suc n) = go (p a) (rw add-one (range-any (suc a) n))
    where
      go : (b : Bool) → any p (range_with_len (a + 1) n) ≡ ltb (first_from p (suc a) n) (suc a + n) →
          (b || any p (range_with_len (a + 1) n)) ≡ ltb (cond b a (first_from p (suc a) n)) (a + suc n)
      go true e = sym (lt-ltb a (a + suc n) (omega arith))
      go false e = let k : suc a + n ≡ a + suc n = omega arith in rw k at e

  module _ (n : ℕ) where
    range-found : (i : ℕ) → find p (range_with_len 0 n) ≡ Some i → (i ≡ first_from p 0 n) × (i < n)
    range-found i e = go (ltb (first_from p 0 n) n) refl (sym (rw zero-add at (range-find 0 n)) ∙ e)
      where
        go : (b : Bool) → ltb (first_from p 0 n) n ≡ b → cond b (Some (first_from p 0 n)) None ≡ Some i → (i ≡ first_from p 0 n) × (i < n)
        go true h f = let z : i ≡ first_from p 0 n = cc in (z, omega (arith, z, ltb-true _ n h))
        go false h f = absurd (false≢true cc)

    range-missing : find p (range_with_len 0 n) ≡ None → n ≤ first_from p 0 n
    range-missing e = go (ltb (first_from p 0 n) n) refl (sym (rw zero-add at (range-find 0 n)) ∙ e)
      where
        go : (b : Bool) → ltb (first_from p 0 n) n ≡ b → cond b (Some (first_from p 0 n)) None ≡ None → n ≤ first_from p 0 n
        go true h f = absurd (false≢true cc)
        go false h f = ltb-false _ n h

-- for a test of backings that is a test of their amounts
module _ (file : List ℕ) (en : Entry) (t : Entered file en) (m : Coded) (test : Field → Bool) (tests : Backing → Bool)
    (same : (b : Backing) → tests b ≡ test b.amount) where
  abbrev bs : List Backing
  bs = backings_of file en.place

  -- the free ones
  free-at : (j : ℕ) → j < en.total → free_in file en m.free test j ≡ chosen_at no_backing (free_at m) tests bs j
  unfolding free_in free_at backing_at
  free-at j h = rw (backing-is file en t j h, same (backing_at file en j))

  first-number : first_from (free_in file en m.free test) 0 en.total ≡ first_from (chosen_at no_backing (free_at m) tests bs) 0 (length bs)
  first-number = rw (backings-many file en t) (first-same _ _ en.total free-at)

  module _ (i : ℕ) (f : first_free file en m test ≡ Some i) where
    abbrev there : (i ≡ first_from (free_in file en m.free test) 0 en.total) × (i < en.total)
    there = range-found (free_in file en m.free test) en.total i f

    pub free-inside : i < en.total
    free-inside = there.1

    pub free-first : i ≡ first_from (chosen_at no_backing (free_at m) tests bs) 0 (length bs)
    free-first = there.0 ∙ first-number

    pub free-some : find tests (chosen_by (free_at m) bs) ≡ Some (backing_at file en i)
    free-some =
        chosen-found no_backing (free_at m) tests bs i free-first (omega (arith, backings-many file en t, free-inside))
        ∙ ap (λ b. Some b) (backing-is file en t i free-inside)

  pub free-none : first_free file en m test ≡ None → find tests (chosen_by (free_at m) bs) ≡ None
  free-none f =
      let h = range-missing (free_in file en m.free test) en.total f in
      chosen-not-found no_backing (free_at m) tests bs (omega (arith, backings-many file en t, h, first-number))

  -- the taken ones
  taken-at : (j : ℕ) → j < en.total → taken_in file en m.free test j ≡ chosen_at no_backing (taken_at m) tests bs j
  unfolding taken_in taken_at free_at backing_at
  taken-at j h = rw (backing-is file en t j h, same (backing_at file en j))

  abbrev first-taken : ℕ
  first-taken = first_from (taken_in file en m.free test) 0 en.total

  taken-number : first-taken ≡ first_from (chosen_at no_backing (taken_at m) tests bs) 0 (length bs)
  taken-number = rw (backings-many file en t) (first-same _ _ en.total taken-at)

  pub taken-some : any_taken file en m test ≡ any test (amounts (chosen_by (taken_at m) bs))
  taken-some = rw zero-add at (range-any (taken_in file en m.free test) 0 en.total) ∙ go (ltb first-taken en.total) refl
    where
      those : any test (amounts (chosen_by (taken_at m) bs)) ≡ any tests (chosen_by (taken_at m) bs)
      those = any-map (λ b. b.amount) test (chosen_by (taken_at m) bs) ∙ sym (ap (λ g. any g (chosen_by (taken_at m) bs)) (fun_ext same))

      go : (b : Bool) → ltb first-taken en.total ≡ b → ltb first-taken en.total ≡ any test (amounts (chosen_by (taken_at m) bs))
      go true h =
          let l : first-taken < length bs = omega (arith, backings-many file en t, ltb-true _ en.total h) in
          h ∙ sym (those ∙ any_some tests (chosen_by (taken_at m) bs) _ (chosen-found no_backing (taken_at m) tests bs first-taken taken-number l))
      go false h =
          let l : length bs ≤ first_from (chosen_at no_backing (taken_at m) tests bs) 0 (length bs) = omega (arith, backings-many file en t, taken-number, ltb-false _ en.total h) in
          h ∙ sym (those ∙ any-not-found tests (chosen_by (taken_at m) bs) (chosen-not-found no_backing (taken_at m) tests bs l))
