-- The order of faults, and the first fault of a sort. A sort of faults has for each kind and offset
-- the fact that there is a fault of the kind at the offset.
use Rattle.std.specs.Prelude.{◌≡◌, ℕ, ◌<◌, ◌≤◌, ◌⊎◌, ◌==◌, ◌&&◌, ◌||◌, List, Option, Some, None}
use Rattle.std.specs.Prelude.{Bool, cond, nat_lt, MatchOption}
use Rattle.std.specs.List.{Contains}
use Rattle.protocol_names.specs.declared.fault.DocumentFault.{DocumentFault}
use Rattle.protocol_names.specs.declared.fault.FaultKind.{FaultKind}
use Rattle.protocol_names.specs.declared.fault.FaultKind.TheVariants.{Duplicate, Unknown, Arity}
use Rattle.protocol_names.specs.declared.fault.FaultKind.TheVariants.{BadAdornment, ForeignKey}

-- the position of a kind in the order of kinds at one offset
abbrev pub kind_rank : FaultKind → ℕ
kind_rank Duplicate = 0
kind_rank Unknown = 1
kind_rank Arity = 2
kind_rank BadAdornment = 3
kind_rank ForeignKey = 4

-- the offset is smaller, or it is the same and the kind not later
abbrev pub IsNotAfter : DocumentFault → FaultKind → ℕ → Type 0
IsNotAfter f kind offset =
    (f.offset < offset) ⊎ ((f.offset ≡ offset) × (kind_rank f.kind ≤ kind_rank kind))

-- a fault of the sort, and no other comes before it
pub record IsFirst (Fault : FaultKind → ℕ → Type 0) (f : DocumentFault) : Type 0 where
  pub fault : Fault f.kind f.offset
  pub least : (kind : FaultKind) (offset : ℕ) → Fault kind offset → IsNotAfter f kind offset

-- there is no fault of the sort
abbrev pub HasNone : (FaultKind → ℕ → Type 0) → Type 0
HasNone Fault = (kind : FaultKind) (offset : ℕ) → ¬ Fault kind offset

-- the first fault of the sort, if there is one
abbrev pub FindsFirst : (FaultKind → ℕ → Type 0) → Option DocumentFault → Type 0
FindsFirst Fault found = MatchOption found (HasNone Fault) (IsFirst Fault)

-- the one fault of that kind at that offset, if the fact holds
pub data FaultIf (Fact : Type 0) (kind : FaultKind) (offset : ℕ) : FaultKind → ℕ → Type 0 where
  holds : Fact → FaultIf Fact kind offset kind offset

-- a fault of one or of the other sort
abbrev pub EitherFault :
    (FaultKind → ℕ → Type 0) → (FaultKind → ℕ → Type 0) → FaultKind → ℕ → Type 0
EitherFault One Other kind offset = One kind offset ⊎ Other kind offset

-- a fault of one of the items
pub record OfSome {X : Type 0} (Fault : X → FaultKind → ℕ → Type 0) (xs : List X)
    (kind : FaultKind) (offset : ℕ) : Type 0 where
  pub item : X
  pub among : Contains xs item
  pub has : Fault item kind offset

-- whether the first of two faults comes before the second
abbrev pub fault_before : DocumentFault → DocumentFault → Bool
fault_before f g =
    nat_lt f.offset g.offset
    || ((f.offset == g.offset) && nat_lt (kind_rank f.kind) (kind_rank g.kind))

-- the first of two, or the one that there is
abbrev pub earlier : Option DocumentFault → Option DocumentFault → Option DocumentFault
earlier None other = other
earlier (Some f) None = Some f
earlier (Some f) (Some g) = cond (fault_before g f) (Some g) (Some f)
