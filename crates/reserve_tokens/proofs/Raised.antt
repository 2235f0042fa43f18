-- The number of a raise is that of a debit's map or of a guard, and those of an entry are found statement by statement.
use Rattle.std.proofs.Common.{ℕ, ◌≡◌, sym, ap, ◌∙◌, Bool, true, false, cond, List, [], map, Option, None, Some, take, drop}
use Rattle.laws.specs.Lists.{filter, find, any}
use Rattle.laws.proofs.Lists.{filter_none}
use Rattle.tags.specs.Tag.{Set, AddTo, between}
use Rattle.fields.specs.Table.{fields_at}
use Rattle.fields.specs.Field.{Field, Placed, front, tag, parts, row, fields_from}
use Rattle.model.specs.Model.{body}
use Rattle.walking.specs.Walking.{receiver, is_debit, exprs}
use Rattle.walking.specs.Assets.{Assets}
use Rattle.walking.specs.Table.{placed_at}
use Rattle.walking.proofs.Calls.{is_call}
use Rattle.tokens.specs.Tokens.{is_inflow, is_credit}
use Rattle.fundings.specs.Fundings.{funding_number}
use Rattle.raises.specs.Raising.{is_raise, raised_by, raising}
use Rattle.raises.proofs.Statements.{raises-chosen, raises-only}
use Rattle.reserve_tokens.specs.declared.raise.Raising.{Raising}
use Rattle.reserve_tokens.specs.ReserveTokens.{credited}
use Rattle.reserve_tokens.specs.Reserving.{with_amount}
use Rattle.reserve_tokens.specs.Numbers.{only_number, guard_numbers, debit_number, raise_number, numbers_in}
use Rattle.reserve_tokens.proofs.Called.{calls-there, credited-any, debit-found, any-placed, find-placed}

-- The number of a raise

-- the calls that are listed of the entry decide what its body says
module _ (en : Raising) (v : Field) (calls : List ℕ) (l : calls ≡ take en.calls.count en.calls.items.now) where
  abbrev file : List ℕ
  file = en.facts.now.file.now

  abbrev entry : Field
  entry = front (drop en.place file)

  called : fields_at file calls ≡ filter is_call (exprs entry)
  called = calls-there file en.place en.facts.now.short calls (l ∙ en.called)

  module _ (b : Bool) (e : b ≡ any (λ call. with_amount is_credit v (front (drop call file))) calls) where
    credited-is : b ≡ credited entry v
    credited-is = e ∙ any-placed (with_amount is_credit v) file calls ∙ credited-any entry v (fields_at file calls) called

    pub credited-too : b ≡ true → 0 ≡ cond (credited entry v) 0 en.guard
    credited-too h = rw (← credited-is, h)

    pub not-credited : b ≡ false → en.guard ≡ cond (credited entry v) 0 en.guard
    not-credited h = rw (← credited-is, h)

  module _ (o : Option ℕ) (e : o ≡ find (λ call. with_amount is_debit v (front (drop call file))) calls) where
    debit-is : elim o [ None ↦ 0 | Some call ↦ funding_number file (receiver (front (drop call file))) ] ≡ debit_number file entry v
    unfolding debit_number
    debit-is =
        ap (λ o. elim o [ None ↦ 0 | Some call ↦ funding_number file (receiver (front (drop call file))) ]) e
        ∙ sym (find-placed (with_amount is_debit v) (λ d. funding_number file (receiver d)) 0 file calls)
        ∙ sym (ap (λ o. elim o [ None ↦ 0 | Some d ↦ funding_number file (receiver d) ]) (debit-found entry v (fields_at file calls) called))

    pub no-debit : o ≡ None → 0 ≡ debit_number file entry v
    no-debit h = rw h at debit-is

    pub debit-there : (call : ℕ) → o ≡ Some call → (k : ℕ) → k ≡ call → (x : List ℕ) → x ≡ drop k file → (m : List ℕ) → m ≡ receiver (front x) →
        (number : ℕ) → number ≡ funding_number file m → number ≡ debit_number file entry v
    debit-there call h k f x g m i number j = rw (j, i, g, f) (rw h at debit-is)

-- so a raise has the number of a guard's token, or of the map of a debit, by whatever fields are the calls of the entry
module _ (file : List ℕ) (v : Field) (entry : Placed) (fs : List Field) (e : fs ≡ filter is_call (exprs entry.this)) where
  pub by-guard : is_inflow entry.this v ≡ true → (guard : ℕ) → guard ≡ only_number (guard_numbers file entry) →
      cond (any (with_amount is_credit v) fs) 0 guard ≡ raise_number file entry v
  unfolding raise_number
  by-guard i guard g = rw (i, credited-any entry.this v fs e, g)

  pub by-debit : is_inflow entry.this v ≡ false →
      elim (find (with_amount is_debit v) fs) [ None ↦ 0 | Some d ↦ funding_number file (receiver d) ] ≡ raise_number file entry v
  unfolding raise_number debit_number
  by-debit i = rw i (sym (ap (λ o. elim o [ None ↦ 0 | Some d ↦ funding_number file (receiver d) ]) (debit-found entry.this v fs e)))

-- what the code tests
module _ (en : Raising) (x : List ℕ) (e : x ≡ drop en.place en.facts.now.file.now) where
  abbrev the_file : List ℕ
  the_file = en.facts.now.file.now

  pub assets-here : Assets x en.assets
  assets-here h = rw e (en.listed h)

  module _ (v : Field) (b : Bool) (f : b ≡ is_inflow (front x) v) (number : ℕ) where
    pub raise-comes-in : b ≡ true → number ≡ cond (credited (front (drop en.place the_file)) v) 0 en.guard → number ≡ raise_number the_file (placed_at the_file en.place) v
    unfolding raise_number
    raise-comes-in h k = let i : is_inflow (front (drop en.place the_file)) v ≡ true = rw e at (sym f ∙ h) in k ∙ rw i (ap (cond (credited (front (drop en.place the_file)) v) 0) en.guarded)

    pub raise-debited : b ≡ false → number ≡ debit_number the_file (front (drop en.place the_file)) v → number ≡ raise_number the_file (placed_at the_file en.place) v
    unfolding raise_number
    raise-debited h k = let i : is_inflow (front (drop en.place the_file)) v ≡ false = rw e at (sym f ∙ h) in k ∙ rw i

-- The numbers of an entry

-- an entry that does not raise the field has none
pub none-raised : (file r : List ℕ) (entry : Placed) → raising r entry.this ≡ false → numbers_in file r entry ≡ []
unfolding raising numbers_in
none-raised file r entry h = rw (raises-chosen r entry.this, filter_none (is_raise r) (body entry.this) h)

-- nor has one without a statement that sets or adds
pub none-assigned : (file r : List ℕ) (entry : Placed) → any (λ f. between Set AddTo (tag f)) (row (parts entry.this)) ≡ false → numbers_in file r entry ≡ []
unfolding numbers_in body fields_from
none-assigned file r entry h =
    rw (raises-chosen r entry.this, ← raises-only r (parts entry.this), filter_none (λ f. between Set AddTo (tag f)) (row (parts entry.this)) h)

-- those of an entry that does
pub numbers-raised : (file r : List ℕ) (entry : Placed) → numbers_in file r entry ≡ map (raise_number file entry) (map (raised_by r) (filter (is_raise r) (body entry.this)))
unfolding numbers_in
numbers-raised file r entry = rw (raises-chosen r entry.this)
