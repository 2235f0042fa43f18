-- Writing into a table: what is written first and what is written then is written.
use Rattle.std.proofs.Common.{ℕ, ◌+◌, ◌≤◌, ◌<◌, ◌≡◌, refl, sym, ◌∙◌, Bool, true, false, not, cond, List, [], ◌∷◌, ◌++◌, arith, length, set, take, drop, length-append, take_at}
use borrow.Author.Tests.{not-true, not-false}
use lib.Seq.{set_out, sets-eq, length-sets}
use Rattle.laws.proofs.Tables.{sets-append}
use Rattle.fields.specs.Table.{Listed}
use Rattle.fields.specs.Lists.{Lists}
use Rattle.fields.specs.declared.table.Table.{Table}

module _ {X : Type 0} (t : List X) (n : ℕ) where
  pub listed-none : Listed [] t n t n
  listed-none = record { count = omega arith; kept = refl }

  module _ (hit : Bool) (k : X) where
    pub missed : not hit ≡ true → Listed (cond hit (k ∷ []) []) t n t n
    missed e = rw (not-true hit e) listed-none

    module _ (e : not hit ≡ false) where
      pub noted : n < length t → Listed (cond hit (k ∷ []) []) t n (set t n k) (n + 1)
      noted h = rw (not-false hit e) (record { count = refl; kept = refl })

      pub no_room : length t ≤ n → Listed (cond hit (k ∷ []) []) t n t (n + 1)
      no_room h = rw (not-false hit e) (record { count = refl; kept = sym (set_out t n k h) })

pub listed_then : {X : Type 0} (ks js t u v : List X) (n m r : ℕ) → Listed ks t n u m → Listed js u m v r → Listed (ks ++ js) t n v r
listed_then ks js t u v n m r p q =
    record {
      count = rw length-append (omega (arith, p.count, q.count));
      kept = q.kept ∙ rw (p.kept, p.count) (sets-append ks js t n);
    }

-- the same of a lent table with its count
pub lists-none : {X : Type 0} (t : Table X) → Lists [] t t
lists-none t = record { listed = listed-none t.items.now t.count; same = refl }

pub lists_then : {X : Type 0} {ks js : List X} {t u v : Table X} → Lists ks t u → Lists js u v → Lists (ks ++ js) t v
lists_then {ks = ks} {js = js} {t = t} {u = u} {v = v} p q =
    record {
      listed = listed_then ks js t.items.now u.items.now v.items.now t.count u.count v.count p.listed q.listed;
      same = q.same ∙ p.same;
    }

-- a table stays as long as it was
pub listed-long : {X : Type 0} {ks t u : List X} {n r : ℕ} → Listed ks t n u r → length u ≡ length t
listed-long {ks = ks} {t = t} {u = u} {n = n} p = rw (p.kept, length-sets t n ks)

-- a table that has room for all holds them in front, and behind them what it held before
module _ {X : Type 0} (ks t u : List X) (r : ℕ) (p : Listed ks t 0 u r) (h : r ≤ length t) where
  pub listed-all : u ≡ ks ++ drop r t
  listed-all = p.kept ∙ sets-eq ks t 0 (omega (arith, p.count)) ∙ rw p.count

  pub listed-front : take r u ≡ ks
  listed-front = rw listed-all (take_at ks (drop r t) r (omega (arith, p.count)))
