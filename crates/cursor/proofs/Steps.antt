-- What a reading step found says how the bytes from its place on are read.
use Rattle.std.proofs.Common.{ℕ, ◌+◌, ◌-◌, ◌≤◌, ◌≡◌, refl, sym, ◌∙◌, Bool, true, false, cond, List, [], arith, leb-true, leb-false, leb, length, take, drop}
use Rattle.std.proofs.Common.{length-drop, drop-drop}
use Rattle.laws.proofs.Lists.{no-elements}
use Rattle.fields.specs.Field.{tag_of, length_of, whole, content, after}
use Rattle.cursor.specs.Cursor.{part_at}
use Rattle.cursor.specs.declared.Cursor.{Cursor}
use Rattle.cursor.specs.declared.Part.{Part}
use Rattle.cursor.specs.declared.Part.TheVariants as part

-- an answer tells the tests that decided it, whether all is there and whether anything is, and what was found
found_part : (j k : Bool) (t u a x b y : ℕ) (n o : Cursor) → part.Found t a b n ≡ cond j (part.Found u x y o) (cond k part.Cut part.End) →
    (j ≡ true) × (t ≡ u) × (a ≡ x) × (b ≡ y) × (n ≡ o)
found_part true k t u a x b y n o e = (refl, (cc), (cc), (cc), (cc))
found_part false true t u a x b y n o e = ((cc), (cc), (cc), (cc), (cc))
found_part false false t u a x b y n o e = ((cc), (cc), (cc), (cc), (cc))

cut-part : (j k : Bool) (u x y : ℕ) (o : Cursor) → part.Cut ≡ cond j (part.Found u x y o) (cond k part.Cut part.End) → (j ≡ false) × (k ≡ true)
cut-part true k u x y o e = ((cc), (cc))
cut-part false true u x y o e = (refl, refl)
cut-part false false u x y o e = (refl, (cc))

end-part : (j k : Bool) (u x y : ℕ) (o : Cursor) → part.End ≡ cond j (part.Found u x y o) (cond k part.Cut part.End) → k ≡ false
end-part true k u x y o e = cc
end-part false true u x y o e = cc
end-part false false u x y o e = refl

-- What a part that was found says of the bytes from its place on: with t for them, `whole t`, its tag, its content and
-- `after t`
pub record PartFound (s : List ℕ) (at t start stop : ℕ) (n : Cursor) : Type 0 where
  pub is_whole : whole (drop at s) ≡ true
  pub has-tag : t ≡ tag_of (drop at s)
  pub starts : start ≡ at + 3
  pub stops : stop ≡ at + 3 + length_of (drop at s)
  pub within : stop ≤ length s
  pub moves : n.at ≡ stop
  pub holds : take (stop - start) (drop start s) ≡ content (drop at s)
  pub leaves : drop n.at s ≡ after (drop at s)

module _ (s : List ℕ) (at : ℕ) (r : Part) (e : r ≡ part_at s at) where
  module _ (t a b : ℕ) (n : Cursor) (f : r ≡ part.Found t a b n) where
    read_is : (whole (drop at s) ≡ true) × (t ≡ tag_of (drop at s)) × (a ≡ at + 3) × (b ≡ at + 3 + length_of (drop at s)) × (n.at ≡ b)
    read_is =
        let (w, x, y, z, m) = found_part (whole (drop at s)) (leb 1 (length (drop at s))) t _ a _ b _ n _ (sym f ∙ e) in
        (w, x, y, z, rw (m, z))

    pub part-is : PartFound s at t a b n
    part-is =
        let (w, x, y, z, m) = read_is in
        let l : 3 + length_of (drop at s) ≤ length s - at = rw (← length-drop at s) (leb-true (3 + length_of (drop at s)) (length (drop at s)) w) in
        let d : b - a ≡ length_of (drop at s) = omega arith in
        let u : b ≡ at + (3 + length_of (drop at s)) = omega arith in
        record {
          is_whole = w;
          has-tag = x;
          starts = y;
          stops = z;
          within = omega arith;
          moves = m;
          holds = rw (d, y, ← drop-drop 3 at s);
          leaves = rw (m, u, ← drop-drop (3 + length_of (drop at s)) at s);
        }

  -- something is left at the place, and no whole field
  pub cut-is : r ≡ part.Cut → (whole (drop at s) ≡ false) × (leb 1 (length (drop at s)) ≡ true)
  cut-is f = cut-part (whole (drop at s)) (leb 1 (length (drop at s))) _ _ _ _ (sym f ∙ e)

  -- nothing is left
  pub end_is : r ≡ part.End → drop at s ≡ []
  end_is f =
      let l = leb-false 1 (length (drop at s)) (end-part (whole (drop at s)) (leb 1 (length (drop at s))) _ _ _ _ (sym f ∙ e)) in
      no-elements (drop at s) (omega arith)
