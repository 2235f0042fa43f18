-- Facts that are right stay right where a number that is right is remembered, and so they may be asked for the field.
use Rattle.std.proofs.Common.{ℕ, ◌<◌, ◌≡◌, refl, sym, ap, ◌∙◌, Bool, true, false, cond, List, Option, None, Some, arith, ltb-true, ltb-false, ltb}
use Rattle.std.proofs.Common.{length, get_or, slice_set, replicate, length-set, get_or-set_other, get_or-set_same, eqb, eqb-true}
use lib.ListN.{length-replicate, get_or-replicate, get_or-eq_default}
use borrow.Author.Tests.{eqb-false}
use Rattle.fields.specs.Field.{fields}
use Rattle.fundings.specs.Remembered.{not_yet, state_fields}
use Rattle.reserve_tokens.specs.ReserveTokens.{reserve_token}
use Rattle.reserve_tokens.specs.Numbers.{reserve_number}
use Rattle.fundings.specs.Funded.{Relisted, remembered_at}
use Rattle.fundings.specs.declared.facts.Facts.{Facts}
use Rattle.reserves.specs.States.{state_name}
use Rattle.reserves.specs.Holding.{is_token, holds_token, FactsOf, Numbered}

-- where nothing is worked out yet, nothing is wrong
pub facts-none : (facts : Facts) → facts.held ≡ replicate state_fields not_yet → FactsOf facts
unfolding remembered_at
facts-none facts e = record { right = λ i n h. cc (rw (e, all-alike i (ltb i state_fields) refl) at h) }
  where
    all-alike : (i : ℕ) (b : Bool) → ltb i state_fields ≡ b → get_or {A = ℕ} (replicate state_fields not_yet) i not_yet ≡ not_yet
    all-alike i true h = get_or-replicate state_fields i not_yet not_yet (ltb-true i state_fields h)
    all-alike i false h =
        get_or-eq_default (replicate {A = ℕ} state_fields not_yet) not_yet {n = i} (omega (arith, ltb-false i state_fields h, length-replicate {A = ℕ} state_fields not_yet))

module _ (facts : Facts) (v : FactsOf facts) (index number : ℕ) where
  abbrev file : List ℕ
  file = facts.file.now

  -- a number that is remembered is that of the field's token
  pub remembered-number : (o : Option ℕ) → o ≡ remembered_at facts index → o ≡ Some number → (k : ℕ) → k ≡ number → k ≡ reserve_number file (state_name file index)
  remembered-number o e g k f = f ∙ v.right index number (sym e ∙ g)

  -- a number that is worked out is too
  pub worked-out : (n : List ℕ) → n ≡ state_name file index → number ≡ reserve_number file n → number ≡ reserve_number file (state_name file index)
  worked-out n e f = rw (← e) f

  -- and it may be remembered
  pub still-facts : (n : List ℕ) → n ≡ state_name file index → number ≡ reserve_number file n → (last : Facts) →
      last ≡ record facts { held = slice_set facts.held index number } → FactsOf last
  unfolding remembered_at
  still-facts n e f last g = rw g (record { right = λ i k. go i k (eqb i index) (ltb index (length facts.held)) refl refl })
    where
      told : (i k x : ℕ) → x ≡ number → i ≡ index → (b : Bool) → cond b None (Some x) ≡ Some k → k ≡ reserve_number file (state_name file i)
      told i k x p q true m = cc m
      told i k x p q false m = let o : k ≡ x = cc m in o ∙ p ∙ f ∙ rw (e, q)

      untold : (i k x : ℕ) → x ≡ not_yet → cond (eqb x not_yet) None (Some x) ≡ Some k → k ≡ reserve_number file (state_name file i)
      untold i k x p m = cc (rw p at m)

      go : (i k : ℕ) (b j : Bool) → eqb i index ≡ b → ltb index (length facts.held) ≡ j →
          remembered_at (record facts { held = slice_set facts.held index number }) i ≡ Some k → k ≡ reserve_number file (state_name file i)
      go i k false j h l m = v.right i k (rw (get_or-set_other facts.held index i number not_yet (eqb-false i index h)) at m)
      go i k true true h l m =
          let q : i ≡ index = eqb-true i index h in
          let p : get_or (slice_set facts.held index number) i not_yet ≡ number = rw q (get_or-set_same facts.held index number not_yet (ltb-true index (length facts.held) l)) in
          told i k (get_or (slice_set facts.held index number) i not_yet) p q (eqb (get_or (slice_set facts.held index number) i not_yet) not_yet) m
      go i k true false h l m =
          let q : i ≡ index = eqb-true i index h in
          let p : get_or (slice_set facts.held index number) i not_yet ≡ not_yet =
          get_or-eq_default (slice_set facts.held index number) not_yet {n = i} (omega (arith, length-set facts.held index number, ltb-false index (length facts.held) l, q)) in
          untold i k (get_or (slice_set facts.held index number) i not_yet) p m

-- each of several numbers that are worked out may be remembered
pub each-written : (file indices numbers : List ℕ) → Numbered file indices numbers → (j : ℕ) → j < length indices → (facts : Facts) → facts.file.now ≡ file → FactsOf facts →
    (number : ℕ) → number ≡ get_or numbers j 0 → (index : ℕ) → index ≡ get_or indices j 0 →
    (last : Facts) → last ≡ record facts { held = slice_set facts.held index number } → FactsOf last
each-written file indices numbers w j h facts same v number e index f last g =
    still-facts facts v index number (state_name facts.file.now index) refl (rw (e, f, same) (w.each j h)) last g

-- facts whose maps are listed are right, since they remember the same
pub facts-relisted : (facts : Facts) → FactsOf facts → (last : Facts) → Relisted facts last → FactsOf last
facts-relisted facts v last w = record {
  right = λ i n h. v.right i n (sym (w.kept i) ∙ h) ∙ ap (λ f. reserve_number f.now (state_name f.now i)) (sym w.file);
}

-- the field's token is the one that is asked for
pub by_token : (file token : List ℕ) (index : ℕ) (t : List ℕ) → t ≡ reserve_token (fields file) (state_name file index) →
    (r : Bool) → r ≡ is_token t token → r ≡ holds_token file token index
unfolding holds_token
by_token file token index t f r h = rw (h, f)
