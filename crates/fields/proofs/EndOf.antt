-- Going along the fields of a file: what is left is the end of the file from its place on, and so each field stands at its place.
use Rattle.std.proofs.Common.{ℕ, ◌+◌, ◌-◌, ◌≤◌, ◌≡◌, ap, ◌∙◌, List, arith, leb-true, length, drop, length-drop, drop-drop}
use Rattle.fields.specs.Field.{length_of, front}
use Rattle.fields.specs.Row.{Step}
use Rattle.fields.specs.declared.field.Fields.{Fields}
use Rattle.fields.specs.declared.field.Field.{Field as Found}

pub record EndOf (file : List ℕ) (rest : Fields) : Type 0 where
  pub tail : rest.rest.now ≡ drop rest.place file
  pub within : rest.place ≤ length file

pub end-all : (file : List ℕ) (it all : Fields) → all ≡ it → it.rest.now ≡ file → it.place ≡ 0 → EndOf file all
end-all file it all y r z = record { tail = rw (y, r, z); within = rw (y, z) (omega arith) }

module _ (file : List ℕ) (rest : Fields) (i : EndOf file rest) (f : Found) (behind : Fields) (h : Step rest f behind) where
  pub end-inside : f.place ≤ length file
  end-inside = rw h.place i.within

  pub end-there : front (drop f.place file) ≡ front f.part.now
  end-there = rw (h.place, ← i.tail, ← h.part)

  pub end-behind : EndOf file behind
  end-behind =
      let l : length rest.rest.now ≡ length file - rest.place = ap length i.tail ∙ length-drop rest.place file in
      record {
        tail = h.rest ∙ rw h.behind (ap (drop (3 + length_of rest.rest.now)) i.tail ∙ drop-drop (3 + length_of rest.rest.now) rest.place file);
        within = omega (arith, i.within, l, h.behind, leb-true (3 + length_of rest.rest.now) (length rest.rest.now) h.there);
      }
