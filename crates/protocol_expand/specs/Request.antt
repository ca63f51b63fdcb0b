-- The protocol of a name, and the protocol of messages alone that it stands for.
use Rattle.std.specs.Prelude.{◌≡◌, ℕ, List, Some, slice_get}
use Rattle.bspl_parser.specs.declared.document.Declaration.{Declaration}
use Rattle.bspl_parser.specs.declared.document.Document.{Document}
use Rattle.protocol_paths.specs.Flat.{IsFlat}
use Rattle.protocol_limits.specs.Graph.{protocol_number}
use Rattle.protocol_limits.specs.Limits.{AreWithinLimits}
use Rattle.protocol_limits.specs.Survey.{IsUnrolled}

-- the first protocol of the name is this one, of this number
pub record IsDeclaredAs (d : Document) (name : List ℕ) (number : ℕ)
    (top : Declaration) : Type 0 where
  pub found : protocol_number d.protocols name ≡ Some number
  pub stands : slice_get d.protocols number ≡ Some top

-- no path of references from the protocol of the name is a cycle, and this is the protocol of
-- messages alone that it stands for
pub record IsFlattening (d : Document) (name : List ℕ) (flat : Declaration) : Type 0 where
  pub number : ℕ
  pub top : Declaration
  pub declared : IsDeclaredAs d name number top
  pub acyclic : IsUnrolled d.protocols number
  pub flattened : IsFlat d.protocols top flat

-- all counts of the protocol of the name are within their limits
pub record HasCountsWithinLimits (d : Document) (name : List ℕ) : Type 0 where
  pub number : ℕ
  pub found : protocol_number d.protocols name ≡ Some number
  pub within : AreWithinLimits d.protocols number
