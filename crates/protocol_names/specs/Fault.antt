-- The faults of a document: of which kind, and at which offset.
use Rattle.std.specs.Prelude.{◌≡◌, ◌≢◌, ℕ, ◌⊎◌, List, Some, None}
use Rattle.std.specs.List.{Contains, zip}
use Rattle.bspl_parser.specs.declared.document.Adorn.TheVariants.{Any, Opt}
use Rattle.bspl_parser.specs.declared.document.Declaration.{Declaration}
use Rattle.bspl_parser.specs.declared.document.Document.{Document}
use Rattle.bspl_parser.specs.declared.document.Formal.{Formal}
use Rattle.bspl_parser.specs.declared.document.Item.{Item}
use Rattle.bspl_parser.specs.declared.document.Item.TheVariants.{Message, Reference}
use Rattle.bspl_parser.specs.declared.document.Reference.{Reference as SpecReference}
use Rattle.bspl_parser.specs.declared.word.Word.{Word}
use Rattle.protocol_names.specs.declared.fault.DocumentFault.{DocumentFault}
use Rattle.protocol_names.specs.declared.fault.FaultKind.{FaultKind}
use Rattle.protocol_names.specs.declared.fault.FaultKind.TheVariants.{Duplicate, Unknown, Arity}
use Rattle.protocol_names.specs.declared.fault.FaultKind.TheVariants.{BadAdornment, ForeignKey}
use Rattle.protocol_names.specs.declared.names.Names.{Names}
use Rattle.protocol_names.specs.FaultOrder.{EitherFault, FaultIf, HasNone, IsFirst, OfSome}
use Rattle.protocol_names.specs.Names.{IsRepeated, IsSameArity, message_words, names_of}
use Rattle.protocol_names.specs.Names.{param_words, params_used, protocol_of, protocol_words}
use Rattle.protocol_names.specs.Names.{roles_used}

-- the later of two equal names
pub data IsDuplicate (words : List Word) : FaultKind → ℕ → Type 0 where
  repeated : (w : Word) → IsRepeated words w → IsDuplicate words Duplicate w.offset

-- a name that is not declared
abbrev pub IsUnknown : List (List ℕ) → Word → FaultKind → ℕ → Type 0
IsUnknown declared w = FaultIf (¬ Contains declared w.text) Unknown w.offset

-- `any` and `opt` are not supported
abbrev pub IsUnsupported : Formal → FaultKind → ℕ → Type 0
IsUnsupported f = FaultIf ((f.adorn ≡ Any) ⊎ (f.adorn ≡ Opt)) BadAdornment f.offset

-- the word `key` on a name that is not declared as a key
pub data IsForeignKey (keys : List (List ℕ)) (f : Formal) : FaultKind → ℕ → Type 0 where
  foreign : (offset : ℕ) → f.key ≡ Some offset → ¬ Contains keys f.name.text →
      IsForeignKey keys f ForeignKey offset

-- a parameter of a message or of a reference: its name, adornment or word `key` is at fault
abbrev pub IsParamFault : Names → Formal → FaultKind → ℕ → Type 0
IsParamFault names f =
    EitherFault (IsUnknown names.params f.name)
    (EitherFault (IsUnsupported f) (IsForeignKey names.keys f))

-- an adornment that is not the one declared at the same index
abbrev pub AdornmentDiffers : Formal × Formal → FaultKind → ℕ → Type 0
AdornmentDiffers pair = FaultIf (pair.0.adorn ≢ pair.1.adorn) BadAdornment pair.0.offset

-- a fault of a reference against the protocol that it names
pub data IsReferenceFault (protocols : List Declaration) (r : SpecReference)
    : FaultKind → ℕ → Type 0 where
  -- there is no protocol of that name
  unknown_protocol : protocol_of protocols r.protocol.text ≡ None →
      IsReferenceFault protocols r Unknown r.protocol.offset
  -- it declares another number of roles or of parameters
  other_arity : (q : Declaration) → protocol_of protocols r.protocol.text ≡ Some q →
      ¬ IsSameArity r q → IsReferenceFault protocols r Arity r.protocol.offset
  -- it declares as many, and another adornment
  other_adornment : (q : Declaration) (kind : FaultKind) (offset : ℕ) →
      protocol_of protocols r.protocol.text ≡ Some q → IsSameArity r q →
      OfSome AdornmentDiffers (zip r.params q.public) kind offset →
      IsReferenceFault protocols r kind offset

-- a message refers to no protocol
abbrev pub IsTargetFault : List Declaration → Item → FaultKind → ℕ → Type 0
IsTargetFault protocols (Message s) kind offset = ⊥
IsTargetFault protocols (Reference r) kind offset = IsReferenceFault protocols r kind offset

-- a message or a reference: its roles or its parameters are at fault, or what it refers to
abbrev pub IsItemFault : List Declaration → Names → Item → FaultKind → ℕ → Type 0
IsItemFault protocols names i =
    EitherFault (OfSome (IsUnknown names.roles) (roles_used i))
    (EitherFault (OfSome (IsParamFault names) (params_used i)) (IsTargetFault protocols i))

-- two roles, two parameters or two messages of a protocol have one name
abbrev pub IsNamedTwice : Declaration → FaultKind → ℕ → Type 0
IsNamedTwice p =
    EitherFault (IsDuplicate p.roles)
    (EitherFault (IsDuplicate (param_words p)) (IsDuplicate (message_words p)))

-- a fault of the names that a protocol declares, of its public parameters or of its body
abbrev pub IsFaultIn : List Declaration → Declaration → FaultKind → ℕ → Type 0
IsFaultIn protocols p =
    EitherFault (IsNamedTwice p)
    (EitherFault (OfSome IsUnsupported p.public)
    (OfSome (IsItemFault protocols (names_of p)) p.body))

-- a document: two protocols have one name, or a protocol is at fault
abbrev pub IsDocumentFault : Document → FaultKind → ℕ → Type 0
IsDocumentFault d =
    EitherFault (IsDuplicate (protocol_words d.protocols))
    (OfSome (IsFaultIn d.protocols) d.protocols)

-- the document has no fault
abbrev pub HasNoFault : Document → Type 0
HasNoFault d = HasNone (IsDocumentFault d)

-- the fault is the first of the document
abbrev pub IsFirstFault : Document → DocumentFault → Type 0
IsFirstFault d f = IsFirst (IsDocumentFault d) f
