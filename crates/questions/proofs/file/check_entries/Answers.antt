-- There is no 65th entry, or it is the one that is refused.
use Rattle.std.proofs.Common.{ℕ, zero, suc, ◌≡◌, refl, List, [], ◌∷◌, Some, None}
use Rattle.std.specs.List.{slice_get}
use Rattle.fields.specs.Field.{Placed}
use Rattle.fields.specs.Row.{shown}
use Rattle.questions.specs.Questions.{at_most}
use Rattle.questions.specs.Questions.Asked.{passes, fails}
use Rattle.questions.proofs.file.check_entries.Goals as goal

at-most : (n number : ℕ) (ps : List Placed) → None ≡ slice_get ps n → passes ≡ at_most n number ps
unfolding at_most
at-most zero number [] e = refl
at-most (suc n) number [] e = refl
at-most zero number (p ∷ ps) e = cc
at-most (suc n) number (p ∷ ps) e = at-most n number ps e

one_more : (n number : ℕ) (ps : List Placed) (p : Placed) → Some p ≡ slice_get ps n → fails number p.place ≡ at_most n number ps
unfolding at_most
one_more zero number [] p e = cc
one_more (suc n) number [] p e = cc
one_more zero number (q ∷ ps) p e = cc
one_more (suc n) number (q ∷ ps) p e = one_more n number ps p e

pub returns-in-None : goal.returns-in-None
returns-in-None c = at-most 64 8 _ c.in-None.ensures.found

pub returns-in-Some : goal.returns-in-Some
returns-in-Some c = one_more 64 8 _ (shown c.in-Some.entry) c.in-Some.ensures.found
