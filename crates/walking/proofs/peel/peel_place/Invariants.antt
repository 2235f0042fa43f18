-- t is the inside of the wrappers passed so far, a part of s that starts at the place: peeling it is peeling s.
use Rattle.std.proofs.Common.{◌≡◌, refl, sym, ap, ◌∙◌, Bool, true, false, not, cond, List, [], ◌++◌, append-nil, append_assoc, ℕ, ◌+◌, ◌-◌, ◌^◌, ◌≤◌, ◌<◌, min, arith, leb-true, w64, Fits}
use Rattle.std.proofs.Common.{length, take, drop, length-take, length-drop, take-append-drop, drop-drop}
use borrow.Author.Tests.{not-true, not-false}
use lib.Seq.{take-append_seam, drop-append-le, drop-length}
use Rattle.tags.specs.Tag.{is_wrapper}
use Rattle.fields.specs.Field.{Field, fields, whole, length_of, front, tag, parts, sizes}
use Rattle.fields.specs.Field.Field.{field}
use Rattle.fields.specs.Field.Fields.{end}
use Rattle.fields.proofs.Reading.{fields-next, fields-end, front-none}
use Rattle.fields.proofs.Inside.{front-inside}
use Rattle.walking.specs.Walking.{peel, peel_first, peel_place, peel_first_place}
use Rattle.walking.proofs.peel.peel_place.Given as goal

-- one step of peeling, by the field's tag and parts
pub peel-step : (f : Field) → peel f ≡ cond (is_wrapper (tag f)) (peel_first (parts f)) f
unfolding peel
peel-step (field t x ps) = refl

pub place-step : (last n : ℕ) (f : Field) → peel_place last n f ≡ cond (is_wrapper (tag f)) (peel_first_place last (n + 3) (parts f)) n
unfolding peel_place
place-step last n (field t x ps) = refl

-- a whole field is the same with more bytes behind it
pub front-before : (x y : List ℕ) → whole x ≡ true → front x ≡ front (x ++ y)
front-before x y w =
    let w' : whole (take (length x) (x ++ y)) ≡ true = rw (take-append_seam x y) w in
    ap (λ z. front z) (sym (take-append_seam x y)) ∙ front-inside (length x) (x ++ y) w'

pub record Peeling (s t : List ℕ) (at : ℕ) : Type 0 where
  pub behind : List ℕ
  pub shows : t ++ behind ≡ drop at s
  pub within : at + length t ≤ length s
  pub here : front t ≡ front (drop at s)
  pub inner : peel (front t) ≡ peel (front s)
  pub stands : peel_place (length s) at (front t) ≡ peel_place (length s) 0 (front s)

pub peeling-all : (s : List ℕ) → Peeling s s 0
peeling-all s =
    record { behind = []; shows = append-nil s; within = omega arith; here = refl; inner = refl; stands = refl }

module _ (s t : List ℕ) (at : ℕ) (i : Peeling s t at) (g : ℕ) (e : g ≡ tag (front t)) (v : Bool) (f : v ≡ is_wrapper g) where
  module _ (n : not v ≡ true) where
    pub stop : front (drop at s) ≡ peel (front s)
    stop = sym i.here ∙ sym (rw (peel-step (front t), ← e, ← f, not-true v n)) ∙ i.inner

    pub stop-place : at ≡ peel_place (length s) 0 (front s)
    stop-place = sym (rw (place-step (length s) at (front t), ← e, ← f, not-true v n)) ∙ i.stands

  module _ (y : not v ≡ false) (u : List ℕ) (p : fields u ≡ parts (front t)) (w : Bool) (h : w ≡ whole u) where
    pub through : peel_first (fields u) ≡ peel (front s)
    through = sym (rw (peel-step (front t), ← e, ← f, not-false v y, ← p)) ∙ i.inner

    pub through-place : peel_first_place (length s) (at + 3) (fields u) ≡ peel_place (length s) 0 (front s)
    through-place = sym (rw (place-step (length s) at (front t), ← e, ← f, not-false v y, ← p)) ∙ i.stands

    module _ (n : not w ≡ true) where
      pub none : fields u ≡ end u
      none = fields-end u (sym h ∙ not-true w n)

      pub empty : front (drop (length s) s) ≡ peel (front s)
      unfolding peel_first
      empty = ap (λ x. front x) (drop-length s) ∙ front-none [] refl ∙ rw none at through

      pub empty-place : length s ≡ peel_place (length s) 0 (front s)
      unfolding peel_first_place
      empty-place = rw none at through-place

    module _ (m : not w ≡ false) (q : u ≡ take (sizes (parts (front t))) (drop 3 t)) where
      pub some : whole u ≡ true
      some = sym h ∙ not-false w m

      pub fits : 3 ≤ length u
      fits = omega (arith, leb-true (3 + length_of u) (length u) some)

      pub shorter : length u + 3 ≤ length t
      shorter =
          let l : length u ≡ min (sizes (parts (front t))) (length t - 3) =
          ap length q ∙ length-take (sizes (parts (front t))) (drop 3 t) ∙ rw (length-drop 3 t) in
          let k = fits in
          omega arith

      pub falls : length u < length t
      falls = let l = shorter in omega arith

      pub in-range : length s < 2 ^ 64 → Fits w64 (at + 3)
      in-range b = let l = shorter in let j = i.within in omega arith

      pub left : List ℕ
      left = drop (sizes (parts (front t))) (drop 3 t) ++ i.behind

      pub shown : u ++ left ≡ drop (at + 3) s
      unfolding left
      shown =
          let l = shorter in
          ap (λ x. x ++ left) q
          ∙ sym (append_assoc (take (sizes (parts (front t))) (drop 3 t)) (drop (sizes (parts (front t))) (drop 3 t)) i.behind)
          ∙ ap (λ x. x ++ i.behind) (take-append-drop (sizes (parts (front t))) (drop 3 t))
          ∙ sym (drop-append-le 3 t i.behind (omega arith))
          ∙ ap (drop 3) i.shows
          ∙ drop-drop 3 at s

      pub on : Peeling s u (at + 3)
      unfolding peel_first peel_first_place
      on =
          let l = shorter in
          let j = i.within in
          record {
            behind = left;
            shows = shown;
            within = omega arith;
            here = front-before u left some ∙ ap (λ x. front x) shown;
            inner = rw (fields-next u some) at through;
            stands = rw (fields-next u some) at through-place;
          }

abbrev pub invariant-loop-t : goal.invariant-loop-t
invariant-loop-t l = Peeling l.s l.t l.at

abbrev pub decreases-loop-t : goal.decreases-loop-t
decreases-loop-t l = length l.t
