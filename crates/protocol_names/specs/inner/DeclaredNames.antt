-- What has been noted of names that are declared one after the other.
use Rattle.std.specs.Prelude.{◌≡◌, ℕ, List, Option}
use Rattle.bspl_parser.specs.declared.word.Word.{Word}
use Rattle.protocol_names.specs.declared.fault.DocumentFault.{DocumentFault}
use Rattle.protocol_names.specs.Fault.{IsDuplicate}
use Rattle.protocol_names.specs.FaultOrder.{FindsFirst}
use Rattle.protocol_names.specs.Names.{texts}

-- the names of the words, and the first word that is a duplicate
pub record AreDeclared (words : List Word) (names : List (List ℕ)) (first : Option DocumentFault)
    : Type 0 where
  pub in_order : names ≡ texts words
  pub duplicate : FindsFirst (IsDuplicate words) first
