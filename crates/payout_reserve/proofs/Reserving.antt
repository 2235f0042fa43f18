-- A payout that is not there asks for no token, so that no state field covers it; one that is there stands at its place in the
-- table, which has room for all.
use Rattle.std.proofs.Common.{ℕ, ◌≤◌, ◌<◌, ◌≡◌, refl, ap, ◌∙◌, false, ◌&&◌, List, [], ◌∷◌, arith, length, get_or, set, replicate, take, get_or-take, length-take-le}
use mathlib.Core.Bool.{and-false}
use Rattle.std.proofs.Common.{Option, None}
use Rattle.std.proofs.lemmas.List.{get_or_default}
use lib.ListN.{length-replicate, get_or-eq_default}
use Rattle.laws.specs.Texts.{known, same_bytes}
use Rattle.laws.specs.Lists.{any}
use Rattle.laws.proofs.Finding.{find_none}
use Rattle.tags.specs.Tag.{Call, is_wrapper}
use Rattle.fields.specs.Field.{Field, Fields, fields, nothing, nth}
use Rattle.fields.specs.Table.{Listed, fields_at}
use Rattle.fields.specs.declared.table.Table.{Table}
use Rattle.model.specs.Model.{body, state_names}
use Rattle.walking.specs.Walking.{peel, ident, body_exprs, payouts, is_payout}
use Rattle.walking.specs.Table.{most_fields, placed_at, places_of}
use Rattle.walking.proofs.Calls.{payout-call}
use Rattle.guards.specs.Guards.{contains_inflow, guarded_by, lowers}
use Rattle.guards.specs.Payouts.{payout_token}
use Rattle.guards.specs.Asked.{asked_token, paid_at, asked_amount}
use Rattle.entries.specs.Calls.{places_where}
use Rattle.entries.specs.Entered.{entry_of, CallsOf, Lent}
use Rattle.entries.proofs.Called.{where-counted, where-read, payouts-where}
use Rattle.entries.proofs.Reading.{calls-all, places-few, table-long, field-there}
use Rattle.reserves.specs.Reserves.{reserve_covers, reserve_bounding_payout}
use Rattle.reserves.specs.Covers.{index_in, asked_reserve}
use Rattle.claim.specs.Claim.{payout_at}
use Rattle.claim.specs.Reserve.{payout_reserve}

-- Nothing is asked for

no-token : payout_token nothing ≡ []
unfolding payout_token ident peel is_wrapper nth
no-token = refl

unasked : (model : Fields) (entry amount : Field) (r : List ℕ) → reserve_covers model entry amount [] r ≡ false
unfolding reserve_covers known
unasked model entry amount r =
    rw (and-false (contains_inflow entry amount && any (same_bytes r) (state_names model) && any (same_bytes r) (guarded_by entry amount) && any (lowers amount r) (body entry)))

none_found : (model : Fields) (entry amount : Field) → reserve_bounding_payout model entry amount [] ≡ None
unfolding reserve_bounding_payout
none_found model entry amount = find_none (reserve_covers model entry amount []) (unasked model entry amount) (guarded_by entry amount)

unpaid : (model : Fields) (entry : Field) (k : ℕ) → payout_at model entry k ≡ nothing → None ≡ index_in model (payout_reserve model entry k)
unfolding payout_reserve index_in
unpaid model entry k e = rw (e, no-token, none_found model entry _)

-- The payout alone in a table

module _ (file : List ℕ) (place : ℕ) (small : length file ≤ 32768) where
  table-lent : place ≤ length file → Lent file place (replicate most_fields 0)
  table-lent h = record { small = small; inside = h; room = omega (arith, small, length-replicate {A = ℕ} most_fields 0) }

  pub all-calls : place ≤ length file → (body : Table ℕ) → Listed (places_of Call (body_exprs (placed_at file place))) (replicate most_fields 0) 0 body.items.now body.count →
      (calls : List ℕ) → calls ≡ take body.count body.items.now → CallsOf file place calls
  all-calls inside body l calls e = calls-all file place (replicate most_fields 0) (table-lent inside) body l calls e

pub alone-asked : (file : List ℕ) (place x : ℕ) (r : Option ℕ) → r ≡ asked_reserve file place (set (replicate 65 0) 0 x) 0 → r ≡ asked_reserve file place (x ∷ []) 0
unfolding asked_token asked_amount
alone-asked file place x r f = f

-- The payout at its place

module _ (file : List ℕ) (place : ℕ) (calls : List ℕ) (c : CallsOf file place calls) (table : List ℕ) (m : ℕ)
    (p : Listed (places_where file is_payout calls) (replicate most_fields 0) 0 table m) where
  abbrev model : Fields
  model = fields file

  abbrev entry : Field
  entry = entry_of file place

  counted : m ≡ length (payouts entry)
  counted = where-counted file place calls c is_payout payout-call (replicate most_fields 0) table m p ∙ ap length (payouts-where (placed_at file place))

  few : m ≤ length (replicate {A = ℕ} most_fields 0)
  few = omega (arith, length-replicate {A = ℕ} most_fields 0, places-few file place calls c is_payout (replicate most_fields 0) table m p, c.small)

  read : fields_at file (take m table) ≡ payouts entry
  read = where-read file place calls c is_payout payout-call (replicate most_fields 0) table m p few ∙ payouts-where (placed_at file place)

  module _ (ps : List ℕ) (e : ps ≡ take m table) (k : ℕ) where
    listed : length ps ≡ m
    listed = rw e (length-take-le m table (table-long file table m (payouts entry) read counted))

    pub payout-missing : length ps ≤ k → None ≡ index_in model (payout_reserve model entry k)
    payout-missing h = unpaid model entry k (get_or-eq_default (payouts entry) nothing (omega (arith, h, listed, counted)))

    pub payout-found : k < length ps → (x : ℕ) → x ≡ get_or ps k x → (r : Option ℕ) → r ≡ asked_reserve file place (x ∷ []) 0 →
        r ≡ index_in model (payout_reserve model entry k)
    unfolding payout_reserve asked_token asked_amount paid_at
    payout-found l x g r j =
        let h : k < m = omega (arith, l, listed) in
        let there : x ≡ get_or table k 0 = g ∙ get_or_default ps k x 0 l ∙ rw e (get_or-take m table k 0 h) in
        j ∙ rw (there, field-there file table m (payouts entry) read counted k h)
