-- The bytes of a text, wherever they lie.
use Rattle.std.specs.Prelude.{ℕ, List}
use Rattle.bspl_parser.specs.declared.text.Place.{Place}
use Rattle.bspl_parser.specs.declared.text.Place.TheVariants.{Lent, Own}

-- those that are lent, or those of the own memory
abbrev pub bytes_at : Place → List ℕ
bytes_at (Lent bytes) = bytes.now
bytes_at (Own name) = name.value
