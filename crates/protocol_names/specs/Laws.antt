-- Facts on names and faults, each the contract of a law.
use Rattle.std.specs.Prelude.{◌≡◌, ◌≢◌, ℕ, List, Some, None, slice_get}
use Rattle.std.specs.List.{Contains, position}
use Rattle.std.specs.Str.{bytes_eq}
use Rattle.bspl_parser.specs.declared.document.Adorn.TheVariants.{Any, Opt}
use Rattle.bspl_parser.specs.declared.document.Declaration.{Declaration}
use Rattle.bspl_parser.specs.declared.document.Formal.{Formal}
use Rattle.bspl_parser.specs.declared.word.Word.{Word}
use Rattle.protocol_names.specs.Fault.{IsForeignKey, IsUnknown, IsUnsupported}
use Rattle.protocol_names.specs.FaultOrder.{HasNone}
use Rattle.protocol_names.specs.Names.{protocol_of, protocol_words, texts}

-- the first protocol of a name is at the first index of the name
pub record NamesFindProtocols : Type 0 where
  pub found : (protocols : List Declaration) (name : List ℕ) (index : ℕ) →
      position (λ n. bytes_eq n name) (texts (protocol_words protocols)) ≡ Some index →
      slice_get protocols index ≡ protocol_of protocols name
  pub missing : (protocols : List Declaration) (name : List ℕ) →
      position (λ n. bytes_eq n name) (texts (protocol_words protocols)) ≡ None →
      protocol_of protocols name ≡ None

-- a declared name is not unknown, an adornment of an expansion is supported, and a foreign key
-- has the word `key`
pub record FaultsHaveCauses : Type 0 where
  pub known : (declared : List (List ℕ)) (w : Word) → Contains declared w.text →
      HasNone (IsUnknown declared w)
  pub supported : (f : Formal) → f.adorn ≢ Any → f.adorn ≢ Opt → HasNone (IsUnsupported f)
  pub keyed : (keys : List (List ℕ)) (f : Formal) → f.key ≡ None → HasNone (IsForeignKey keys f)
