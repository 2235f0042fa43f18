-- What is remembered of the state fields of a file, before anything is worked out.
use Rattle.std.specs.Prelude.{ℕ}

-- what is not worked out yet: no set of tokens has this number
abbrev pub not_yet : ℕ
not_yet = 65535

-- how many state fields something is remembered of: one takes 11 bytes at least
abbrev pub state_fields : ℕ
state_fields = 2979
