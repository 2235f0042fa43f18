-- The refusals 1 to 12, and beside each limit what passes it, computed from the definitions.
use Rattle.std.proofs.Common.{ℕ, zero, suc, ◌≡◌, refl, List, [], ◌∷◌, ◌++◌, replicate}
use Rattle.tags.specs.Tag.{State, Genesis, Entry, Limits, Name, String, Caller, Call, Eq}
use Rattle.fields.proofs.Writing.{write, name, integer, identifier, times, nots}
use Rattle.matching.specs.Matching.{Cover}
use Rattle.matching.specs.Matching.Cover.{equal_debit, equal_parameter}
use Rattle.claim.specs.Verdict.{refused, accepted}
use Rattle.claim.proofs.Samples.{Row, about, found, stated, entry, one, state, asset, plain, guard, statement, in_asset, holds, amount}
use Rattle.claim.proofs.Samples.{n, debit, send, k3}

-- the covers of one kind with the indexes below n
abbrev each : (ℕ → Cover) → ℕ → List Cover
each cover zero = []
each cover (suc n) = each cover n ++ cover n ∷ []

-- 32 asset parameters and so many debits of 1; the amount of each parameter is sent, and then 1 so many times
abbrev crowded : (debited sent : ℕ) → List ℕ
crowded debited sent =
    times 32 (asset "a") ++ times debited (debit (integer "1")) ++ times 32 (send (amount "a")) ++ times sent (send (integer "1"))

-- the refusals, with number and place: an entry's content begins at 7, behind its head and name
refusals : List Row
refusals =
    -- 1: 32,769 bytes; 32,768 pass, and the file has no entry
    about (replicate 32769 0) 0 (refused 1 0) ∷
    about (state "r" (write String (replicate 32752 0x20))) 0 (refused 9 0) ∷
    -- 2: a cut head; a cut content; cut inside an entry; longer than what encloses it; before 3
    about (0x03 ∷ 0x00 ∷ []) 0 (refused 2 0) ∷
    about (0x03 ∷ 0x00 ∷ 0x05 ∷ 0x20 ∷ []) 0 (refused 2 0) ∷
    one (0x16 ∷ 0x00 ∷ []) (refused 2 7) ∷
    about (write Entry (0x20 ∷ 0x00 ∷ 0x05 ∷ 0x66 ∷ []) ++ entry []) 0 (refused 2 3) ∷
    about (0x07 ∷ 0x00 ∷ 0x01 ∷ []) 0 (refused 2 0) ∷
    -- 3: no such tag; a parameter in the name's place; a clause behind a statement; a second default
    about (write 0x07 []) 0 (refused 3 0) ∷
    about (write Entry plain) 0 (refused 3 3) ∷
    one (guard (holds "T") ++ write Limits (holds "T")) (refused 3 20) ∷
    about (state "r" (integer "0" ++ integer "0")) 0 (refused 3 17) ∷
    -- 4: depth 33, before 5; depth 32 passes
    one (guard (nots 32 (identifier ""))) (refused 4 106) ∷
    one (guard (nots 31 (identifier "x"))) (accepted []) ∷
    -- 5: an empty name, before 6; a byte 7F; a filled empty field; an empty integer passes
    about (write State (name "")) 0 (refused 5 3) ∷
    about (write Entry (write Name (0x7F ∷ []))) 0 (refused 5 3) ∷
    one (guard (write Caller (0x20 ∷ []))) (refused 5 10) ∷
    one (guard (integer "")) (accepted []) ∷
    -- 6: no name; no type name; a binary with one side; a call of nothing; an empty genesis
    about (write Entry []) 0 (refused 6 0) ∷
    about (write State (name "r")) 0 (refused 6 0) ∷
    one (guard (write Eq in_asset)) (refused 6 10) ∷
    one (statement (write Call [])) (refused 6 10) ∷
    about (write Genesis []) 0 (refused 6 0) ∷
    -- 7: a name for the second time
    about (state "r" [] ++ state "q" [] ++ state "r" []) 0 (refused 7 26) ∷
    -- 8: 65 entries; 64 pass, and are counted from 0
    about (times 65 (entry [])) 0 (refused 8 448) ∷
    about (times 64 (entry [])) 63 (accepted []) ∷
    about (times 64 (entry [])) 64 (refused 9 0) ∷
    -- 9: the empty file passes 1 to 8
    about [] 0 (refused 9 0) ∷
    -- 10: the call of the 65th payout, before 11; 64 payouts by 64 backings pass 10 and 11
    about (entry [] ++ entry (times 65 (send (integer "1")))) 1 (refused 10 1937) ∷
    one (crowded 32 33) (refused 10 3754) ∷
    one (crowded 33 33) (refused 10 3782) ∷
    one (crowded 32 32) (accepted (each equal_parameter 32 ++ each equal_debit 32)) ∷
    -- 11: 65 backings, both debits and parameters, debits alone, parameters alone; 64 pass
    one (crowded 33 32) (refused 11 0) ∷
    one (times 65 (debit n)) (refused 11 0) ∷
    one (times 64 (debit n)) (accepted []) ∷
    about (entry [] ++ entry (times 65 (asset "a"))) 1 (refused 11 7) ∷
    one (times 64 (asset "a")) (accepted []) ∷
    -- 12: two bytes for one payout, 191 for 64; three and 192 pass
    record { file = k3; number = 0; lent = 2; expected = refused 12 0 } ∷
    record { file = k3; number = 0; lent = 3; expected = accepted (equal_parameter 0 ∷ []) } ∷
    record { file = entry (crowded 32 32); number = 0; lent = 191; expected = refused 12 0 } ∷ []

refusals-hold : found refusals ≡ stated refusals
unfolding found refusals k3
refusals-hold = refl
