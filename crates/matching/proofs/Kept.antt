-- The marks that the code hands back stand for those of the definition: a backing that is taken loses its mark and joins the
-- taken ones, a reserve joins the used ones, and the order of the taken amounts makes no difference to the answer.
use Rattle.std.proofs.Common.{ℕ, ◌≤◌, ◌<◌, ◌≡◌, refl, sym, ap, ◌∙◌, Bool, true, false, ◌||◌, List, [], ◌∷◌, reverse, arith, lt-ltb, length, get_or}
use Rattle.std.proofs.Common.{get_or-set_other}
use lib.ListN.{get_or-replicate}
use Rattle.std.proofs.lemmas.List.{reverse-append, take_more_set, length-set, length-replicate}
use Rattle.std.proofs.Common.{Some}
use Rattle.laws.specs.Numbers.{chosen_by, first_from}
use Rattle.laws.specs.Lists.{any, remove_first}
use Rattle.laws.proofs.Truths.{and_left}
use Rattle.laws.proofs.Chosen.{chosen_at, Cleared, first-true, remove-chosen, taken-chosen, cleared-mark, all-chosen, none-chosen}
use Rattle.fields.specs.Field.{Field, Fields}
use Rattle.entries.specs.declared.entry.Entry.{Entry}
use Rattle.backings.specs.Marked.{mark_at, free_at, taken_at, all_free, uses, used_of, without, with_used}
use Rattle.entries.specs.Entered.{Entered}
use Rattle.backings.specs.Tables.{first_free}
use Rattle.backings.specs.declared.marks.Marks.{Marks as Coded}
use Rattle.matching.specs.Matching.{Backing, Marks, backings, start}
use Rattle.matching.specs.Standing.{amounts, marks_of, Stands, backings_of, backing_at}
use Rattle.matching.proofs.Backed.{no_backing, backings-many, backing-is}
use Rattle.laws.proofs.Lists.{any-map}
use Rattle.matching.proofs.Found.{free-inside, free-first}

cleared-free : (m : Coded) (i : ℕ) → free_at m i ≡ true → Cleared (free_at m) (free_at (without m i)) i
unfolding free_at mark_at without
cleared-free m i e = record {
  was = e;
  gone = cleared-mark m.free i;
  kept = λ j n. rw (get_or-set_other m.free i j false false n);
}

module _ (file : List ℕ) (en : Entry) (t : Entered file en) (m : Coded) (s : Marks)
    (v : Stands (backings_of file en.place) m s) where
  -- a backing is taken, the first free one that passes the test
  module _ (test : Field → Bool) (tests : Backing → Bool) (same : (b : Backing) → tests b ≡ test b.amount)
      (i : ℕ) (f : first_free file en m test ≡ Some i) where
    first : i ≡ first_from (chosen_at no_backing (free_at m) tests (backings_of file en.place)) 0 (length (backings_of file en.place))
    first = free-first file en t m test tests same i f

    inside : i < length (backings_of file en.place)
    inside = omega (arith, backings-many file en t, free-inside file en t m test tests same i f)

    was_free : free_at m i ≡ true
    was_free =
        let all : List Backing = backings_of file en.place in
        and_left (free_at m i) (tests (get_or all i no_backing)) (first-true (chosen_at no_backing (free_at m) tests all) (length all) i first inside)

    now-cleared : Cleared (free_at m) (free_at (without m i)) i
    now-cleared = cleared-free m i was_free

    taken-same : (g : Field → Bool) →
        g (backing_at file en i).amount || any g s.taken ≡ any g (amounts (chosen_by (taken_at (without m i)) (backings_of file en.place)))
    unfolding taken_at marks_of
    taken-same g =
        rw (
          v.taken g,
          any-map (λ b. b.amount) g (chosen_by (taken_at m) (backings_of file en.place)),
          any-map (λ b. b.amount) g (chosen_by (taken_at (without m i)) (backings_of file en.place)),
          taken-chosen no_backing (free_at m) (free_at (without m i)) (λ b. g b.amount) (backings_of file en.place) i inside now-cleared,
          backing-is file en t i (free-inside file en t m test tests same i f),
        )

    pub backing-taken : Stands (backings_of file en.place) (without m i)
        (record { free = remove_first tests s.free; taken = (backing_at file en i).amount ∷ s.taken; used = s.used })
    unfolding marks_of without
    backing-taken = record {
      free = ap (remove_first tests) v.free ∙ remove-chosen no_backing (free_at m) (free_at (without m i)) tests (backings_of file en.place) i first inside now-cleared;
      taken = taken-same;
      used = v.used;
      room = v.room;
    }

  -- a reserve is used
  module _ (i : ℕ) (h : uses m < 64) where
    pub reserve-taken : Stands (backings_of file en.place) (with_used m i) (record { free = s.free; taken = s.taken; used = i ∷ s.used })
    unfolding with_used marks_of free_at taken_at
    reserve-taken = rw (with_used, lt-ltb (uses m) 64 h) (record {
      free = v.free;
      taken = v.taken;
      used = ap (λ l. i ∷ l) v.used ∙ sym (ap reverse (take_more_set m.used m.uses i (omega (arith, v.room, h))) ∙ reverse-append (used_of m) (i ∷ []));
      room = length-set m.used m.uses i ∙ v.room;
    })

-- At the start every backing is free

all-first : (i : ℕ) → i < 64 → free_at all_free i ≡ true
unfolding free_at mark_at all_free
all-first i h = get_or-replicate 64 i true false h

module _ (model : Fields) (entry : Field) (few : length (backings model entry) ≤ 64) where
  all-free : chosen_by (free_at all_free) (backings model entry) ≡ backings model entry
  all-free = all-chosen (free_at all_free) (backings model entry) (λ i h. all-first i (omega arith))

  none-taken : chosen_by (taken_at all_free) (backings model entry) ≡ []
  unfolding taken_at
  none-taken = none-chosen (taken_at all_free) (backings model entry) (λ i h. rw (all-first i (omega arith)))

  pub start-stands : Stands (backings model entry) all_free (start model entry)
  unfolding start marks_of all_free
  start-stands = record {
    free = sym all-free;
    taken = λ test. ap (λ l. any test (amounts l)) (sym none-taken);
    used = refl;
    room = length-replicate {A = ℕ} 64 0;
  }
