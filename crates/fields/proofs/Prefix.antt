-- The fields of the first bytes of a file: cut behind a field, they are the first fields of the file.
use Rattle.std.proofs.Common.{ℕ, ◌+◌, ◌≤◌, ◌≡◌, refl, sym, ap, ap₂, ◌∙◌, true, false, cond, List, [], ◌∷◌, ◌++◌, arith, leb-true, le-leb, length, take, drop, length-take, drop_of_length-le}
use Rattle.std.proofs.Common.{take-add, get_or-take}
use lib.Seq.{take-append_seam, drop-append-le}
use Rattle.laws.proofs.Lists.{filter-append}
use Rattle.tags.specs.Tag.{between}
use Rattle.fields.specs.Field.{Fields, fields, length_of, whole, after, front, tag, row, fields_from}
use Rattle.fields.specs.Field.Fields.{end, next}
use Rattle.fields.proofs.Reading.{fields-next, fields-end, by-fields}
use Rattle.fields.proofs.Inside.{front-inside, whole-inside, same_length}

-- what is left behind the last whole field
unfoldable pub end_of : Fields → List ℕ
end_of (end r) = r
end_of (next f fs) = end_of fs

-- fields behind fields that leave nothing
unfoldable pub joined : Fields → Fields → Fields
joined (end r) gs = gs
joined (next f fs) gs = next f (joined fs gs)

pub joined-row : (fs gs : Fields) → row (joined fs gs) ≡ row fs ++ row gs
unfolding joined row
joined-row (end r) gs = refl
joined-row (next f fs) gs = ap (λ l. f ∷ l) (joined-row fs gs)

pub joined-rest : (fs gs : Fields) → end_of (joined fs gs) ≡ end_of gs
unfolding joined end_of
joined-rest (end r) gs = refl
joined-rest (next f fs) gs = joined-rest fs gs

pub joined-from : (low high : ℕ) (fs gs : Fields) → fields_from low high (joined fs gs) ≡ fields_from low high fs ++ fields_from low high gs
unfolding fields_from
joined-from low high fs gs = rw (joined-row fs gs) (filter-append (λ f. between low high (tag f)) (row fs) (row gs))

-- bytes behind bytes that are whole fields
module _ (q : List ℕ) where
  abbrev Joins : List ℕ → Type 0
  Joins p = end_of (fields p) ≡ [] → fields (p ++ q) ≡ joined (fields p) (fields q)

  none-whole : (p : List ℕ) → whole p ≡ false → Joins p
  unfolding end_of joined
  none-whole p w e = rw (fields-end p w) (ap (λ l. fields (l ++ q)) (rw (fields-end p w) at e))

  one_more : (p : List ℕ) → whole p ≡ true → Joins (after p) → Joins p
  unfolding end_of joined
  one_more p w a e =
      let s : take (length p) (p ++ q) ≡ p = take-append_seam p q in
      let v : whole (take (length p) (p ++ q)) ≡ true = rw s w in
      let l : length_of p ≡ length_of (p ++ q) = ap (λ x. length_of x) (sym s) ∙ same_length (length p) (p ++ q) v in
      let f : front p ≡ front (p ++ q) = ap (λ x. front x) (sym s) ∙ front-inside (length p) (p ++ q) v in
      let b : after (p ++ q) ≡ after p ++ q = rw (← l) (drop-append-le (3 + length_of p) p q (leb-true (3 + length_of p) (length p) w)) in
      fields-next (p ++ q) (whole-inside (length p) (p ++ q) v)
      ∙ ap₂ next (sym f) (ap fields b ∙ a (rw (fields-next p w) at e))
      ∙ ap (λ fs. joined fs (fields q)) (sym (fields-next p w))

  pub fields-append : (p : List ℕ) → Joins p
  fields-append = by-fields Joins none-whole (λ p w c a. one_more p w a)

-- the bytes of one whole field
module _ (s : List ℕ) (w : whole s ≡ true) where
  abbrev alone : List ℕ
  alone = take (3 + length_of s) s

  fits : 3 + length_of s ≤ length s
  fits = leb-true (3 + length_of s) (length s) w

  alone-length : length alone ≡ 3 + length_of s
  alone-length = omega (arith, length-take (3 + length_of s) s, fits)

  stated : length_of alone ≡ length_of s
  stated = cc (get_or-take (3 + length_of s) s 1 0 (omega arith), get_or-take (3 + length_of s) s 2 0 (omega arith))

  alone-whole : whole alone ≡ true
  alone-whole = le-leb (3 + length_of alone) (length alone) (omega (arith, stated, alone-length))

  alone-fields : fields alone ≡ next (front s) (end [])
  alone-fields =
      let n : after alone ≡ [] = drop_of_length-le alone {i = 3 + length_of alone} (omega (arith, stated, alone-length)) in
      fields-next alone alone-whole ∙ ap₂ next (front-inside (3 + length_of s) s alone-whole) (ap fields n ∙ fields-end [] refl)

-- the first fields of a file, and one more
module _ (file : List ℕ) (at : ℕ) (e : end_of (fields (take at file)) ≡ []) (w : whole (drop at file) ≡ true) where
  one-longer : fields (take (at + (3 + length_of (drop at file))) file) ≡ joined (fields (take at file)) (next (front (drop at file)) (end []))
  one-longer =
      ap fields (take-add at (3 + length_of (drop at file)) file)
      ∙ fields-append (alone (drop at file) w) (take at file) e
      ∙ ap (joined (fields (take at file))) (alone-fields (drop at file) w)

  pub prefix-ends : end_of (fields (take (at + (3 + length_of (drop at file))) file)) ≡ []
  unfolding end_of
  prefix-ends = rw (one-longer, joined-rest)

  pub prefix-from : (low high : ℕ) → fields_from low high (fields (take (at + (3 + length_of (drop at file))) file))
      ≡ fields_from low high (fields (take at file)) ++ cond (between low high (tag (front (drop at file)))) (front (drop at file) ∷ []) []
  unfolding fields_from row
  prefix-from low high = rw one-longer (joined-from low high (fields (take at file)) (next (front (drop at file)) (end [])))
