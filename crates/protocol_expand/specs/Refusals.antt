-- Why the protocol of a name has no expansion.
use Rattle.std.specs.Prelude.{◌≡◌, ℕ, List, None, Some, slice_get, ◌⊎◌}
use Rattle.bspl_types.specs.declared.refusals.Refusal.{Refusal}
use Rattle.bspl_types.specs.declared.refusals.Refusal.TheVariants.{NoProtocol, Duplicate, Unknown, Arity, BadAdornment, Recursion, Limit, ForeignKey, NoMemory}
use Rattle.bspl_types.specs.declared.refusals.What.{What}
use Rattle.bspl_parser.specs.declared.document.Declaration.{Declaration}
use Rattle.bspl_parser.specs.declared.document.Document.{Document}
use Rattle.protocol_names.specs.declared.fault.FaultKind.{FaultKind}
use Rattle.protocol_names.specs.declared.fault.FaultKind.TheVariants as kind
use Rattle.protocol_names.specs.Fault.{HasNoFault, IsFirstFault}
use Rattle.reference_graph.specs.Cycle.{IsFirstCycle}
use Rattle.protocol_limits.specs.Graph.{graph_of, protocol_number}
use Rattle.protocol_limits.specs.Survey.{IsTooLarge}
use Rattle.protocol_expand.specs.Request.{IsDeclaredAs, IsFlattening, HasCountsWithinLimits}
use Rattle.protocol_expand.specs.Repeats.{RepeatsName}

-- the document's first fault is of that kind, at that offset
abbrev pub IsFaulty : Document → FaultKind → ℕ → Type 0
IsFaulty d kind offset = IsFirstFault d (record { kind = kind; offset = offset })

-- the document has no fault, and no protocol of the name
pub record NamesNoProtocol (d : Document) (name : List ℕ) : Type 0 where
  pub faultless : HasNoFault d
  pub none : protocol_number d.protocols name ≡ None

-- the first cycle of references from the protocol of the name ends at the protocol of that other
-- name
pub record HasCycle (d : Document) (name met : List ℕ) : Type 0 where
  pub faultless : HasNoFault d
  pub number : ℕ
  pub top : Declaration
  pub declared : IsDeclaredAs d name number top
  pub node : ℕ
  pub cycle : IsFirstCycle (graph_of d.protocols) number node
  pub protocol : Declaration
  pub stands : slice_get d.protocols node ≡ Some protocol
  pub named : protocol.name.text ≡ met

-- no path is a cycle, and a count is the first over its limit
pub record ExceedsLimit (d : Document) (name : List ℕ) (what : What) (count : ℕ) : Type 0 where
  pub faultless : HasNoFault d
  pub number : ℕ
  pub top : Declaration
  pub declared : IsDeclaredAs d name number top
  pub too_large : IsTooLarge d.protocols number what count

-- all counts are within their limits, and two names of the flat protocol are equal, the later at
-- that offset
pub record HasEqualNames (d : Document) (name : List ℕ) (offset : ℕ) : Type 0 where
  pub faultless : HasNoFault d
  pub within : HasCountsWithinLimits d name
  pub flat : Declaration
  pub flattens : IsFlattening d name flat
  pub repeats : RepeatsName flat offset

-- why there is no expansion, unless memory ran out
abbrev pub IsNotExpanded : Document → List ℕ → Refusal → Type 0
IsNotExpanded d name (Duplicate offset) = IsFaulty d kind.Duplicate offset
    ⊎ HasEqualNames d name offset
IsNotExpanded d name (Unknown offset) = IsFaulty d kind.Unknown offset
IsNotExpanded d name (Arity offset) = IsFaulty d kind.Arity offset
IsNotExpanded d name (BadAdornment offset) = IsFaulty d kind.BadAdornment offset
IsNotExpanded d name (ForeignKey offset) = IsFaulty d kind.ForeignKey offset
IsNotExpanded d name (NoProtocol missing) = (missing ≡ name) × NamesNoProtocol d name
IsNotExpanded d name (Recursion met) = HasCycle d name met
IsNotExpanded d name (Limit what count) = ExceedsLimit d name what count
IsNotExpanded d name NoMemory = Unit {0}
IsNotExpanded d name other = ⊥

-- the refusal for a fault of that kind
abbrev pub refusal_at : FaultKind → ℕ → Refusal
refusal_at kind.Duplicate offset = Duplicate offset
refusal_at kind.Unknown offset = Unknown offset
refusal_at kind.Arity offset = Arity offset
refusal_at kind.BadAdornment offset = BadAdornment offset
refusal_at kind.ForeignKey offset = ForeignKey offset
