-- A word under another name.
use Rattle.std.specs.Prelude.{◌≡◌, ℕ, List}
use Rattle.bspl_parser.specs.declared.word.Word.{Word}

-- it has the name, and the offset of the word that it replaces
pub record IsSubstituted (name : List ℕ) (w w' : Word) : Type 0 where
  pub text : w'.text ≡ name
  pub offset : w'.offset ≡ w.offset
