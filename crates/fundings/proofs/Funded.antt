-- The calls of an entry's body are all in the table, and only a call can fund a map.
use Rattle.std.proofs.Common.{ℕ, ◌≤◌, ◌≡◌, sym, ◌∙◌, List, arith, length, take}
use Rattle.laws.specs.Lists.{any}
use Rattle.laws.proofs.Lists.{any-map}
use Rattle.tags.specs.Tag.{Call}
use Rattle.fields.specs.Table.{Listed, fields_at}
use Rattle.fields.specs.Field.{front}
use Rattle.fields.proofs.AtPlaces.{field_at}
use Rattle.walking.specs.Walking.{body_exprs}
use Rattle.walking.specs.Table.{most_fields, placed_at, places_of}
use Rattle.tokens.specs.Tokens.{is_funding}
use Rattle.fundings.specs.FundingTokens.{funds}
use Rattle.fundings.specs.Fundings.{funded_by}
use Rattle.fundings.proofs.Calls.{room-lent, calls-front, calls-fund}

pub funding-any : (s m : List ℕ) → length s ≤ 32768 → (table calls : List ℕ) (count : ℕ) → Listed (places_of Call (body_exprs (placed_at s 0))) table 0 calls count →
    length table ≡ most_fields → (ks : List ℕ) → ks ≡ take count calls → any (field_at (is_funding m (front s)) s) ks ≡ funds m (front s)
unfolding field_at fields_at funded_by funds
funding-any s m h table calls count l k ks c =
    rw (c, calls-front s 0 table calls count l (room-lent s 0 table calls count l (omega (arith, k))))
    (sym (any-map _ (is_funding m (front s)) (places_of Call (body_exprs (placed_at s 0)))) ∙ calls-fund s 0 (omega arith) m)
