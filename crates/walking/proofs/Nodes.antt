-- What the answer about a node says of the field at the front of s, and so of `p.amount`.
use Rattle.std.proofs.Common.{ℕ, ◌+◌, ◌-◌, ◌≤◌, ◌≡◌, refl, sym, ◌∙◌, Bool, true, false, cond, not, ◌&&◌, List, [], arith, eqb-true, leb-true, eqb, length, take, drop, Option, Some, None}
use borrow.Author.Tests.{not-true, not-false}
use Rattle.laws.specs.Texts.{bytes, same_bytes}
use Rattle.laws.proofs.Truths.{and_left, and_right}
use Rattle.tags.specs.Tag.{Member, Identifier, composite}
use Rattle.fields.specs.Field.{tag_of, length_of, whole, content, front, tag, text, part}
use Rattle.fields.proofs.Parts.{tag-front, tag-none, text-front}
use Rattle.walking.specs.Walking.{ident, asset_amount_backer}
use Rattle.walking.specs.Node.{node_of}

module _ (s : List ℕ) (t : ℕ) (r : Option ℕ) (e : r ≡ node_of s t) where
  found-is : (n : ℕ) → r ≡ Some n → (whole s && eqb (tag_of s) t ≡ true) × (n ≡ 3 + length_of s)
  found-is n f = go (whole s && eqb (tag_of s) t) refl
    where
      go : (k : Bool) → whole s && eqb (tag_of s) t ≡ k → (whole s && eqb (tag_of s) t ≡ true) × (n ≡ 3 + length_of s)
      go true h = (h, (cc))
      go false h = ((cc), (cc))

  module _ (n : ℕ) (f : r ≡ Some n) where
    whole-there : whole s ≡ true
    whole-there = and_left (whole s) (eqb (tag_of s) t) (found-is n f).0

    tag-there : tag (front s) ≡ t
    tag-there =
        sym (tag-front s (tag_of s) whole-there refl) ∙ eqb-true (tag_of s) t (and_right (whole s) (eqb (tag_of s) t) (found-is n f).0)

    pub ends-behind : 3 ≤ n
    ends-behind = omega (arith, (found-is n f).1)

    pub ends-within : n ≤ length s
    ends-within = omega (arith, (found-is n f).1, leb-true (3 + length_of s) (length s) whole-there)

  other_tag : eqb 0 t ≡ false → r ≡ None → eqb (tag (front s)) t ≡ false
  other_tag z f = go (whole s) (eqb (tag_of s) t) refl refl
    where
      go : (j k : Bool) → whole s ≡ j → eqb (tag_of s) t ≡ k → eqb (tag (front s)) t ≡ false
      go true true w h = cc
      go true false w h = rw (← tag-front s (tag_of s) w refl) h
      go false k w h = rw (← tag-none s w) z

-- `p.amount` part by part
module _ (s : List ℕ) (r : Option ℕ) (e : r ≡ node_of s Member) where
  pub no_member : r ≡ None → [] ≡ asset_amount_backer (front s)
  unfolding asset_amount_backer
  no_member f = rw (other_tag s Member r e refl f)

  module _ (n : ℕ) (f : r ≡ Some n) (x y : List ℕ) (g : front x ≡ part 1 (front s)) (h : y ≡ text (front x)) (b : Bool)
      (k : b ≡ same_bytes y (bytes "amount")) where
    named : asset_amount_backer (front s) ≡ cond b (ident (part 0 (front s))) []
    unfolding asset_amount_backer
    named = rw (tag-there s Member r e n f, ← g, ← h, k)

    pub other_name : not b ≡ true → [] ≡ asset_amount_backer (front s)
    other_name i = rw (named, not-true b i)

    module _ (i : not b ≡ false) (base : List ℕ) (j : front base ≡ part 0 (front s)) (q : Option ℕ) (l : q ≡ node_of base Identifier) where
      pub no-identifier : q ≡ None → [] ≡ asset_amount_backer (front s)
      unfolding ident
      no-identifier m = rw (named, not-false b i, ← j, other_tag base Identifier q l refl m)

      pub the-base : (end : ℕ) → q ≡ Some end → take (end - 3) (drop 3 base) ≡ asset_amount_backer (front s)
      unfolding ident composite
      the-base end m =
          let w = whole-there base Identifier q l end m in
          let d : end - 3 ≡ length_of base = omega (arith, (found-is base Identifier q l end m).1) in
          let p : tag_of base ≡ Identifier = tag-front base (tag_of base) w refl ∙ tag-there base Identifier q l end m in
          let x : content base ≡ text (front base) = text-front base true false Identifier (sym w) (sym p) refl refl (content base) refl in
          rw (named, not-false b i, ← j, tag-there base Identifier q l end m, d) x
