-- Faults of a protocol whose names are given once.
use Rattle.std.specs.Prelude.{ℕ, List}
use Rattle.bspl_parser.specs.declared.document.Declaration.{Declaration}
use Rattle.protocol_names.specs.declared.fault.FaultKind.{FaultKind}
use Rattle.protocol_names.specs.Fault.{IsItemFault, IsUnsupported}
use Rattle.protocol_names.specs.FaultOrder.{EitherFault, OfSome}
use Rattle.protocol_names.specs.Names.{names_of}

-- a public parameter is not supported, or an item has a fault
abbrev pub IsOtherFaultIn : List Declaration → Declaration → FaultKind → ℕ → Type 0
IsOtherFaultIn protocols p = EitherFault
    (OfSome IsUnsupported p.public)
    (OfSome (IsItemFault protocols (names_of p)) p.body)
