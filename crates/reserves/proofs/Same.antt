-- A reading that is changed twice is still of the same lent facts and table.
use Rattle.std.proofs.Common.{refl, ◌∙◌}
use Rattle.reserves.specs.Reading.{Same}
use Rattle.reserves.specs.declared.reading.Reading.{Reading}

pub same-none : (reading : Reading) → Same reading reading
same-none reading = record { file = refl; facts = refl; scratch = refl; long = refl }

pub same_then : (a b c : Reading) → Same a b → Same b c → Same a c
same_then a b c p q = record { file = q.file ∙ p.file; facts = q.facts ∙ p.facts; scratch = q.scratch ∙ p.scratch; long = q.long ∙ p.long }
