-- The protocol that a protocol text declares.
use Rattle.std.specs.Prelude.{ℕ, ◌≤◌, List, length}
use Rattle.bspl_types.specs.declared.expanded.Expanded.{Expanded}
use Rattle.bspl_types.specs.Admission.{IsAdmitted}
use Rattle.bspl_types.specs.Limits.{text_limit}
use Rattle.bspl_parser.specs.declared.document.Document.{Document}
use Rattle.bspl_parser.specs.Judgement.{IsText}
use Rattle.protocol_names.specs.Fault.{HasNoFault}
use Rattle.protocol_expand.specs.Expansion.{IsExpansion}
use Rattle.protocol_expand.specs.Request.{HasCountsWithinLimits}

-- the text is no longer than its limit, and it spells the document
pub record IsSpelled (text : List ℕ) (d : Document) : Type 0 where
  pub short : length text ≤ text_limit
  pub spelled : IsText text d

-- the text spells a document without a fault; in it the protocol of the name is within all limits
-- and has this expansion, which is admitted
pub record Declares (name text : List ℕ) (x : Expanded) : Type 0 where
  pub document : Document
  pub read : IsSpelled text document
  pub faultless : HasNoFault document
  pub within : HasCountsWithinLimits document name
  pub expands : IsExpansion document name x
  pub admitted : IsAdmitted x
