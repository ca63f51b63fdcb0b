-- The naming that the code gives.
use Rattle.std.specs.Prelude.{map}
use Rattle.answer_words.specs.declared.lent_naming.LentNaming.{LentNaming}
use Rattle.answer_words.specs.Namings.{Naming}

-- its kind, the name given and the names, as bytes
abbrev pub naming_of : LentNaming → Naming
naming_of n = record {
  kind = n.kind.now;
  given = n.given.now;
  names = map (λ name. name.now) n.names;
}
