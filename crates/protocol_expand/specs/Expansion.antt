-- The expansion of a protocol of a document (Singh 2011): the images of all paths, their names
-- replaced by indices.
use Rattle.std.specs.Prelude.{ℕ, List}
use Rattle.std.specs.List.{All}
use Rattle.bspl_types.specs.declared.expanded.Expanded.{Expanded}
use Rattle.bspl_parser.specs.declared.document.Declaration.{Declaration}
use Rattle.bspl_parser.specs.declared.document.Document.{Document}
use Rattle.protocol_names.specs.Fault.{HasNoFault}
use Rattle.protocol_expand.specs.FlatExpansion.{IsExpansionOf}
use Rattle.protocol_names.specs.Plain.{IsUnkeyed}
use Rattle.protocol_expand.specs.Request.{IsFlattening, HasCountsWithinLimits}

-- the expansion of the protocol of that name
pub record IsExpansion (d : Document) (name : List ℕ) (x : Expanded) : Type 0 where
  pub flat : Declaration
  pub flattens : IsFlattening d name flat
  pub expands : IsExpansionOf flat x

-- the document has no fault, the counts are within their limits, and this is the expansion
pub record Expands (d : Document) (name : List ℕ) (x : Expanded) : Type 0 where
  pub faultless : HasNoFault d
  pub within : HasCountsWithinLimits d name
  pub expansion : IsExpansion d name x

-- a plain protocol: its body has messages alone, and the word `key` is in none of them
abbrev pub IsPlain : Declaration → Type 0
IsPlain p = All IsUnkeyed p.body
