-- The text of an expansion.
use Rattle.std.specs.Prelude.{◌≡◌, ℕ, List, [], ◌∷◌}
use Rattle.bspl_types.specs.declared.expanded.Expanded.{Expanded}
use Rattle.bspl_parser.specs.declared.document.Declaration.{Declaration}
use Rattle.bspl_parser.specs.declared.document.Document.{Document}
use Rattle.bspl_parser.specs.Judgement.{IsText}
use Rattle.bspl_parser.specs.Layout.{printed}
use Rattle.protocol_expand.specs.FlatExpansion.{IsExpansionOf}
use Rattle.protocol_expand.specs.Canonical.{IsCanonical}
use Rattle.protocol_expand.specs.Expansion.{Expands}

-- the layout of one protocol of messages alone that has this expansion, with the word `key` in no
-- message
pub record IsPrinted (x : Expanded) (text : List ℕ) : Type 0 where
  pub flat : Declaration
  pub expands : IsExpansionOf flat x
  pub bare : IsCanonical flat
  pub layout : text ≡ printed (record { protocols = flat ∷ [] })

-- the text is that of a document in which the protocol of the expansion's name expands to it
pub record ExpandsBack (text : List ℕ) (x : Expanded) : Type 0 where
  pub document : Document
  pub read : IsText text document
  pub again : Expands document x.name x
