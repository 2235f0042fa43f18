-- Demand 3, a single claim about an entry with all its payouts, in the demand's order; its words stand in quotation marks.
-- They are read off the file, never off the marks of the pass: payout, debit, parameter, amount and token are Matching's, a
-- reserve is a state field that covers by Reserves. "Amounts equal, bound, guard and lower here as in 01's Matching, Bounds
-- and Reserves, peeled wherever those peel": the tests are those modules' own, `equals`, `bounds` and `reserve_covers`.
use Rattle.std.specs.Prelude.{ℕ, ◌+◌, ◌*◌, ◌<◌, Bool, true, false, cond, ◌&&◌, ◌||◌, not, List, ◌++◌, ◌↔◌, ◌≡◌, eqb, length, get_or, take}
use Rattle.std.specs.Prelude.{Option, None, Some}
use Rattle.std.specs.Prelude.{slice_get}
use Rattle.laws.specs.Lists.{any, filter}
use Rattle.fields.specs.Field.{Field, Fields, fields, nothing}
use Rattle.model.specs.Model.{state_names}
use Rattle.questions.specs.Questions.{passes, ask_file}
use Rattle.walking.specs.Walking.{peel, payouts}
use Rattle.equality.specs.Equality.{expr_eq}
use Rattle.tokens.specs.Tokens.{differ}
use Rattle.guards.specs.Payouts.{payout_token, payout_amount}
use Rattle.reserves.specs.Reserves.{reserve_covers}
use Rattle.matching.specs.Matching.{Source, Backing, debit_backings, parameter_backings, equals, bounds}
use Rattle.matching.specs.Matching.Source.{debit, parameter}
use Rattle.claim.specs.Verdict.{matching, entry_at, ask_entry, verdict, outcome, first_of, second_of, written}

-- "the covers written": the kind of payout i's cover, the first of its three bytes
abbrev pub kind_at : List ℕ → ℕ → ℕ
kind_at covers i = get_or covers (3 * i) 0

-- its index, the other two, most significant first
abbrev pub index_at : List ℕ → ℕ → ℕ
index_at covers i = get_or covers (3 * i + 1) 0 * 256 + get_or covers (3 * i + 2) 0

-- what a kind names, as a number: 3 a debit as 1 does, 4 a parameter as 2 does, 5 a reserve
unfoldable pub named_by : ℕ → ℕ
named_by kind = cond (eqb kind 3) 1 (cond (eqb kind 4) 2 kind)

-- the kinds 1 and 2 of the debits and parameters whose amount equals
abbrev pub equal_kind : Source → ℕ
equal_kind debit = 1
equal_kind parameter = 2

-- a list has an element at index i, and it passes the test
unfoldable pub passes_at : {A : Type 0} → (A → Bool) → List A → ℕ → Bool
passes_at test l i = elim (slice_get l i) [ None ↦ false | Some x ↦ test x ]

-- "the two tokens not known to differ", of a payout and a debit or parameter
unfoldable pub not_known_to_differ : Field → Backing → Bool
not_known_to_differ p b = not (differ b.token (payout_token p))

-- "whose amount equals .. the payout's, the two tokens not known to differ"
unfoldable pub backs_equal : Field → Backing → Bool
backs_equal p b = equals p b && not_known_to_differ p b

-- "or bounds", in the same way
unfoldable pub backs_bounding : Field → Backing → Bool
backs_bounding p b = bounds p b && not_known_to_differ p b

-- "accepted": the answer is 0
abbrev pub Accepted : (answer : ℕ) → Type 0
Accepted answer = answer ≡ 0

-- E, the entry of a model
module _ (model : Fields) (entry : Field) where
  -- "a reserve guarded and lowered in E by that amount and holding the payout's token"
  unfoldable pub backs_reserve : Field → List ℕ → Bool
  backs_reserve p r = reserve_covers model entry (peel (payout_amount p)) (payout_token p) r

  -- a cover "names for" the payout p, "as the kind says", "a caller debit or asset parameter of E" or a reserve that backs it
  unfoldable pub backs : Field → (kind index : ℕ) → Bool
  backs p kind index =
      eqb kind 1 && passes_at (backs_equal p) (debit_backings model entry) index
      || eqb kind 2 && passes_at (backs_equal p) (parameter_backings entry) index
      || eqb kind 3 && passes_at (backs_bounding p) (debit_backings model entry) index
      || eqb kind 4 && passes_at (backs_bounding p) (parameter_backings entry) index
      || eqb kind 5 && passes_at (backs_reserve p) (state_names model) index

  -- the i-th "send_asset call in a body statement of E with a third argument"
  abbrev pub payout_at : ℕ → Field
  payout_at i = get_or (payouts entry) i nothing

  -- "for each payout"
  unfoldable pub EachPayout : (ℕ → Type 0) → Type 0
  EachPayout P = (i : ℕ) → i < length (payouts entry) → P i

  -- the debits and parameters of E, "debits first"
  abbrev pub debits_first : List Backing
  debits_first = debit_backings model entry ++ parameter_backings entry

  -- "each payout's amount equals that of some caller debit or asset parameter of E"
  unfoldable pub EachEqualsSome : Type 0
  EachEqualsSome = EachPayout (λ i. any (equals (payout_at i)) debits_first ≡ true)

  -- the payout is "the j-th of its amount": before it stand j - 1 whose amount equals its own
  unfoldable pub earlier : ℕ → ℕ
  earlier i =
      length (filter (λ q. expr_eq (peel (payout_amount q)) (peel (payout_amount (payout_at i)))) (take i (payouts entry)))

  -- "a j-th such debit or parameter", whose amount equals the payout's
  unfoldable pub jth : ℕ → Option Backing
  jth i = slice_get (filter (equals (payout_at i)) debits_first) (earlier i)

  -- "there is" one, "and the two tokens are not known to differ"
  unfoldable pub HasJth : ℕ → Type 0
  HasJth i = (b : Backing) × (jth i ≡ Some b) × (not_known_to_differ (payout_at i) b ≡ true)

  -- the cover written for the payout is that one, "with kind 1 or 2"
  unfoldable pub NamesJth : (covers : List ℕ) → ℕ → Type 0
  NamesJth covers i =
      (b : Backing) × (jth i ≡ Some b) × (kind_at covers i ≡ equal_kind b.source) × (index_at covers i ≡ b.index)

  -- what demand 3 says of an answer about E and its two numbers, and of the covers as they were lent and as they are left
  pub record Backed (lent : List ℕ) (answer first second : ℕ) (left : List ℕ) : Type 0 where
    -- "If E is accepted, the answer is the number of its payouts,"
    pub counted : Accepted answer → first ≡ length (payouts entry)
    -- "and the covers written name for each payout, as the kind says," what backs it
    pub sound : Accepted answer → EachPayout (λ i. backs (payout_at i) (kind_at left i) (index_at left i) ≡ true)
    -- "what no other payout's cover names"
    pub apart : Accepted answer → EachPayout (λ i. EachPayout (λ j.
        named_by (kind_at left i) ≡ named_by (kind_at left j) → index_at left i ≡ index_at left j → i ≡ j))
    -- "If each payout's amount equals that of some caller debit or asset parameter of E, then E is accepted exactly when, for
    -- each payout, the j-th of its amount, there is a j-th such debit or parameter, debits first, and the two tokens are not
    -- known to differ;"
    pub exact : EachEqualsSome → (Accepted answer ↔ EachPayout HasJth)
    -- "and those are then the covers written, with kind 1 or 2."
    pub exact_covers : EachEqualsSome → Accepted answer → EachPayout (NamesJth left)
    -- "In every case verdict," which is the answer,
    pub given_verdict : answer ≡ outcome (matching model entry)
    -- "failing payout", the first number of a rejection, with the second, its reason,
    pub given_first : first ≡ first_of (matching model entry)
    pub given_second : second ≡ second_of entry (matching model entry)
    -- "and covers are the ones that 01's Matching gives."
    pub given_covers : left ≡ written (matching model entry) lent

-- entry n of a file, "past every check": questions 1 to 8 about the file, 9 to 12 about the entry and the covers lent
unfoldable pub Demand3 : (file : List ℕ) (n : ℕ) (lent : List ℕ) (answer first second : ℕ) (left : List ℕ) → Type 0
Demand3 file n lent answer first second left =
    ask_file file ≡ passes → ask_entry (fields file) n (length lent) ≡ passes →
    Backed (fields file) (entry_at (fields file) n).this lent answer first second left

-- "Whatever the lent covers held, let E be any entry of any model file"
unfoldable pub Claim : Type 0
Claim = (file lent : List ℕ) (n : ℕ) →
    let v = verdict file n (length lent) in
    Demand3 file n lent (outcome v) (first_of v) (second_of (entry_at (fields file) n).this v) (written v lent)
