-- The protocol that is expanded, and the protocol of messages alone that it stands for, once the document has no fault.
use Rattle.std.proofs.Common.{◌≡◌, ℕ, List, Some, sym, ◌∙◌, subst}
use Rattle.std.specs.Prelude.{slice_get}
use Rattle.bspl_parser.specs.declared.document.Declaration.{Declaration}
use Rattle.bspl_parser.specs.declared.document.Document.{Document}
use Rattle.protocol_names.specs.Fault.{HasNoFault}
use Rattle.protocol_paths.specs.Flat.{IsFlat}
use Rattle.protocol_limits.specs.Graph.{protocol_number}
use Rattle.protocol_limits.specs.Limits.{AreWithinLimits}
use Rattle.protocol_limits.specs.Survey.{IsUnrolled}
use Rattle.protocol_expand.specs.Request.{IsDeclaredAs, IsFlattening, HasCountsWithinLimits}

-- the document has no fault, and its first protocol of the name is this one, of this number
pub record IsRequested (d : Document) (name : List ℕ) (number : ℕ) (top : Declaration) : Type 0 where
  pub faultless : HasNoFault d
  pub found : protocol_number d.protocols name ≡ Some number
  pub stands : slice_get d.protocols number ≡ Some top

-- the protocol of messages alone, once all counts are within their limits too
pub record IsFlatRequest (d : Document) (name : List ℕ) (flat : Declaration) : Type 0 where
  pub number : ℕ
  pub top : Declaration
  pub requested : IsRequested d name number top
  pub acyclic : IsUnrolled d.protocols number
  pub within : AreWithinLimits d.protocols number
  pub flattened : IsFlat d.protocols top flat

-- the parts of a request
pub declared : (d : Document) (name : List ℕ) (number : ℕ) (top : Declaration) → IsRequested d name number top → IsDeclaredAs d name number top
declared d name number top requested = record { found = requested.found; stands = requested.stands }

pub requested : (d : Document) (name : List ℕ) (number : ℕ) (top : Declaration) → HasNoFault d → IsDeclaredAs d name number top → IsRequested d name number top
requested d name number top faultless is = record { faultless = faultless; found = is.found; stands = is.stands }

pub flattening_of : (d : Document) (name : List ℕ) (flat : Declaration) → IsFlatRequest d name flat → IsFlattening d name flat
flattening_of d name flat is = record { number = is.number; top = is.top; declared = declared d name is.number is.top is.requested; acyclic = is.acyclic; flattened = is.flattened }

pub limits_of : (d : Document) (name : List ℕ) (flat : Declaration) → IsFlatRequest d name flat → HasCountsWithinLimits d name
limits_of d name flat is = record { number = is.number; found = is.requested.found; within = is.within }

-- and from the parts again
pub flat_request : (d : Document) (name : List ℕ) (flat : Declaration) → HasNoFault d → HasCountsWithinLimits d name → IsFlattening d name flat → IsFlatRequest d name flat
flat_request d name flat faultless limits is =
    let same : Some limits.number ≡ Some is.number = sym limits.found ∙ is.declared.found in
    let number : limits.number ≡ is.number = cc in
    record {
      number = is.number;
      top = is.top;
      requested = requested d name is.number is.top faultless is.declared;
      acyclic = is.acyclic;
      within = subst (λ (n : ℕ). AreWithinLimits d.protocols n) number limits.within;
      flattened = is.flattened;
    }
