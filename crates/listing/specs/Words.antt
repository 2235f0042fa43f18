-- The words of a line as the code has them.
use Rattle.std.specs.Prelude.{ℕ, List}
use Rattle.listing.specs.Decimal.{decimal}
use Rattle.listing.specs.declared.text.Word.{Word}
use Rattle.listing.specs.declared.text.Word.TheVariants.{Text, Number}

-- a text stands for itself, and a number for its decimal digits
abbrev pub bytes_of : Word → List ℕ
bytes_of (Text t) = t.now
bytes_of (Number n) = decimal n
