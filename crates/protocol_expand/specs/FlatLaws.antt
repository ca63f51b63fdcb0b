-- Facts on expansions of protocols of messages alone, each the contract of a law.
use Rattle.std.specs.Prelude.{◌≡◌, length, map}
use Rattle.bspl_types.specs.declared.expanded.Expanded.{Expanded}
use Rattle.bspl_parser.specs.declared.document.Declaration.{Declaration}
use Rattle.protocol_names.specs.Names.{key_words, message_words, param_words, texts}
use Rattle.protocol_expand.specs.FlatExpansion.{IsExpansionOf}
use Rattle.protocol_expand.specs.WellScoped.{IsWellScoped}

-- a well-scoped protocol has an expansion
abbrev pub WellScopedExpand : Type 0
WellScopedExpand = (d : Declaration) → IsWellScoped d → (x : Expanded) × IsExpansionOf d x

-- no protocol has two expansions
abbrev pub FlatExpansionsAreUnique : Type 0
FlatExpansionsAreUnique =
    (d : Declaration) (x y : Expanded) → IsExpansionOf d x → IsExpansionOf d y → x ≡ y

-- an expansion has the declared names, and as many keys as are declared
pub record ExpansionsKeepNames : Type 0 where
  pub params : (d : Declaration) (x : Expanded) → IsExpansionOf d x →
      map (λ p. p.name) x.params ≡ texts (param_words d)
  pub messages : (d : Declaration) (x : Expanded) → IsExpansionOf d x →
      map (λ m. m.name) x.messages ≡ texts (message_words d)
  pub keys : (d : Declaration) (x : Expanded) → IsExpansionOf d x →
      length x.keys ≡ length (key_words d)
