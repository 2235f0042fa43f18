-- The token of each raise and the one found so far: an unknown one leaves none, one that differs neither, and one that is the
-- same changes nothing. So the number that is agreed on stands for the one token of all.
use Rattle.std.proofs.Common.{ℕ, ◌≤◌, ◌≡◌, refl, sym, ◌∙◌, Bool, true, false, cond, not, List, [], ◌∷◌, map, arith, ltb-true, ltb-false, ltb, length}
use Rattle.laws.specs.Lists.{all}
use Rattle.laws.specs.Texts.{known, same_bytes}
use Rattle.laws.proofs.Texts.{bytes-equal, bytes_same, unknown, is_known, same-unknown}
use Rattle.tokens.specs.Tokens.{single, differ}
use Rattle.tokens.specs.Numbers.{token_of}
use Rattle.tokens.proofs.Joining.{token-none, token-inside}
use Rattle.reserve_tokens.specs.Reserving.{Found, bars}
use Rattle.reserve_tokens.specs.Numbers.{agreed}

-- the one token among the one found so far, where there is one, and those that are left: here an unknown one counts
unfoldable held : List ℕ → List (List ℕ) → List ℕ
held found ts = cond (known found) (single (found ∷ ts)) (single ts)

held-alone : (a : List ℕ) → a ≡ held a []
unfolding held known single
held-alone [] = refl
held-alone (x ∷ xs) = refl

held_none : (ts : List (List ℕ)) → held [] ts ≡ single ts
unfolding held known
held_none ts = refl

module _ (a t : List ℕ) (ts : List (List ℕ)) where
  unknown-held : known t ≡ false → [] ≡ held a (t ∷ ts)
  unfolding held single known
  unknown-held e = go (known a) refl t e
    where
      none : (k : Bool) → [] ≡ cond {A = List ℕ} k [] []
      none true = refl
      none false = refl

      go : (i : Bool) → known a ≡ i → (t : List ℕ) → known t ≡ false → [] ≡ held a (t ∷ ts)
      go true p t q = rw (p, same-unknown a t p q)
      go false p [] q = rw p (none (all (same_bytes []) ts))
      go false p (x ∷ xs) q = cc

  held-barred : bars a t ≡ true → [] ≡ held a (t ∷ ts)
  unfolding bars differ held single
  held-barred e = go (known t) (known a) (same_bytes a t) refl refl refl
    where
      go : (i j k : Bool) → known t ≡ i → known a ≡ j → same_bytes a t ≡ k → [] ≡ held a (t ∷ ts)
      go false j k p q r = unknown-held p
      go true true true p q r = cc
      go true true false p q r = rw (q, r)
      go true false k p q r = cc

  held_on : bars a t ≡ false → held t ts ≡ held a (t ∷ ts)
  unfolding bars differ held single
  held_on e = go (known t) (known a) (same_bytes a t) refl refl refl
    where
      go : (i j k : Bool) → known t ≡ i → known a ≡ j → same_bytes a t ≡ k → held t ts ≡ held a (t ∷ ts)
      go false j k p q r = cc
      go true true true p q r = rw (p, q, r, ← bytes-equal a t r)
      go true true false p q r = cc
      go true false k p q r = rw (p, q)

-- a known token bars the field where it differs
known-bars : (a t : List ℕ) → (length t ≡ 0 → ⊥) → (b : Bool) → b ≡ differ a t → b ≡ bars a t
unfolding bars
known-bars a t n b e = e ∙ rw (is_known t n)

pub not-barred : (a t : List ℕ) → bars a t ≡ false → known t ≡ true
unfolding bars
not-barred a t e = go (known t) refl
  where
    go : (k : Bool) → known t ≡ k → known t ≡ true
    go true p = p
    go false p = cc

bars-itself : (t : List ℕ) → not (known t) ≡ bars t t
unfolding bars differ
bars-itself t = go (known t) refl
  where
    go : (k : Bool) → known t ≡ k → not (known t) ≡ bars t t
    go true p = rw (p, bytes_same t)
    go false p = rw p

-- The numbers of tokens

pub token-none-of : (file : List ℕ) → token_of file 1 ≡ []
token-none-of file = sym (token-none file 1 (omega arith))

pub found_none : (file : List ℕ) → Found file 1
unfolding known
found_none file = record { some = omega arith; small = omega arith; unnamed = rw (token-none-of file) }

-- one with a known token
pub found-known : (file : List ℕ) → length file ≤ 32768 → (k : ℕ) → known (token_of file k) ≡ true → Found file k
unfolding known
found-known file h k e = go (ltb k 2) refl
  where
    go : (b : Bool) → ltb k 2 ≡ b → Found file k
    go true f =
        let z : false ≡ true = rw (← token-none file k (ltb-true k 2 f)) at e in
        let y : ◌≡◌ {A = ℕ} 0 1 = cc in
        absurd (omega arith)
    go false f =
        let l : 2 ≤ k = ltb-false k 2 f in
        record { some = omega arith; small = omega (arith, token-inside file k e); unnamed = rw (e, f) }

-- so the number that raises agree on stands for the one token of all
agreed_held : (file : List ℕ) (k : ℕ) (ns : List ℕ) → token_of file (agreed file k ns) ≡ held (token_of file k) (map (token_of file) ns)
unfolding agreed
agreed_held file k [] = held-alone (token_of file k)
agreed_held file k (n ∷ ns) = go (bars (token_of file k) (token_of file n)) refl (agreed_held file n ns)
  where
    go : (b : Bool) → bars (token_of file k) (token_of file n) ≡ b → token_of file (agreed file n ns) ≡ held (token_of file n) (map (token_of file) ns) →
        token_of file (cond b 1 (agreed file n ns)) ≡ held (token_of file k) (token_of file n ∷ map (token_of file) ns)
    go true e h = token-none-of file ∙ held-barred (token_of file k) (token_of file n) (map (token_of file) ns) e
    go false e h = h ∙ held_on (token_of file k) (token_of file n) (map (token_of file) ns) e

pub agreed-token : (file : List ℕ) (ns : List ℕ) → token_of file (agreed file 1 ns) ≡ single (map (token_of file) ns)
agreed-token file ns = agreed_held file 1 ns ∙ rw (token-none-of file) (held_none (map (token_of file) ns))

-- and it is that of a known token, or 1
pub agreed-found : (file : List ℕ) → length file ≤ 32768 → (k : ℕ) (ns : List ℕ) → Found file k → Found file (agreed file k ns)
unfolding agreed
agreed-found file h k [] i = i
agreed-found file h k (n ∷ ns) i = go (bars (token_of file k) (token_of file n)) refl (agreed-found file h n ns)
  where
    go : (b : Bool) → bars (token_of file k) (token_of file n) ≡ b → (Found file n → Found file (agreed file n ns)) → Found file (cond b 1 (agreed file n ns))
    go true e f = found_none file
    go false e f = f (found-known file h n (not-barred (token_of file k) (token_of file n) e))

-- what the code tests
module _ (file : List ℕ) (found k : ℕ) where
  pub unknown-bars : (t : List ℕ) → t ≡ token_of file k → length t ≡ 0 → true ≡ bars (token_of file found) (token_of file k)
  unfolding bars
  unknown-bars t e h = rw (← e, unknown t h)

  pub same_number : Found file found → k ≡ found → ltb k 2 ≡ bars (token_of file found) (token_of file k)
  same_number i e = rw e (sym i.unnamed ∙ bars-itself (token_of file found))

  pub number-bars : (t : List ℕ) → t ≡ token_of file k → (length t ≡ 0 → ⊥) → (x : List ℕ) → x ≡ token_of file found → (b : Bool) → b ≡ differ x t →
      b ≡ bars (token_of file found) (token_of file k)
  number-bars t e h x f b d = rw (← e, ← f) (known-bars x t h b d)
