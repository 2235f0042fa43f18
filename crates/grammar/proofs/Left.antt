-- The slots that are left, one by one: the first decides, or is passed over. So what is left answers question 3 as the whole row does.
use Rattle.std.proofs.Common.{ℕ, ◌≡◌, true, false, List, ◌∷◌, None, Some}
use Rattle.grammar.specs.Grammar.{takes, goes_on, may_stay_empty, advance}

module _ (row slots : List ℕ) (slot tag : ℕ) (i : advance (slot ∷ slots) tag ≡ advance row tag) where
  pub stays : takes slot tag ≡ true → goes_on slot ≡ true → Some (slot ∷ slots) ≡ advance row tag
  unfolding advance
  stays h l = rw (h, l) at i

  pub moves : takes slot tag ≡ true → goes_on slot ≡ false → Some slots ≡ advance row tag
  unfolding advance
  moves h l = rw (h, l) at i

  pub refused : takes slot tag ≡ false → may_stay_empty slot ≡ false → None ≡ advance row tag
  unfolding advance
  refused h l = rw (h, l) at i

  pub passed : takes slot tag ≡ false → may_stay_empty slot ≡ true → advance slots tag ≡ advance row tag
  unfolding advance
  passed h l = rw (h, l) at i
