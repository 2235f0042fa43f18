-- Listings computed from the definitions, as bytes.
use Rattle.std.proofs.Common.{◌≡◌, refl, [], ◌∷◌, ◌++◌}
use Rattle.fields.proofs.Writing.{integer, times}
use Rattle.claim.proofs.Samples.{entry, state, asset, amount, send}
use Rattle.listing.proofs.Worked.{lines, listed}

-- a rejected entry between two others; more payouts than backings never are accepted, so here two assets and one payout
three-listed : listed (entry [] ++ entry (asset "a" ++ send (amount "a") ++ send (amount "a")) ++ entry (asset "a" ++ asset "b" ++ send (amount "b")))
    ≡ lines ("e 0 ok 0 0" ∷ "e 1 no 1" ∷ "e 2 ok 1 1" ∷ "p 0 2 1" ∷ [])
unfolding listed
three-listed = refl

-- a file refused by question 2, one by 7, and one with nothing in it
refused-listed : listed (0x03 ∷ 0x00 ∷ []) ∷ listed (state "r" [] ++ state "q" [] ++ state "r" []) ∷ listed [] ∷ []
    ≡ lines ("r 2 0" ∷ []) ∷ lines ("r 7 26" ∷ []) ∷ [] ∷ []
unfolding listed
refused-listed = refl

-- an entry refused by 10 or by 11 stands between the others, and the last passes at the limit; the place of the 65th payout has four
-- digits
tenth-listed : listed (entry [] ++ entry (times 65 (send (integer "1"))) ++ entry (times 64 (send (integer "1"))))
    ≡ lines ("e 0 ok 0 0" ∷ "r 10 1937" ∷ "e 2 no 0" ∷ [])
unfolding listed
tenth-listed = refl

eleventh-listed : listed (entry [] ++ entry (times 65 (asset "a")) ++ entry (times 64 (asset "a")))
    ≡ lines ("e 0 ok 0 0" ∷ "r 11 7" ∷ "e 2 ok 0 64" ∷ [])
unfolding listed
eleventh-listed = refl
