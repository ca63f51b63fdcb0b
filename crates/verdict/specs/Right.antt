-- When the answer on a protocol's safety is right: each one with the evidence for it.
use Rattle.std.specs.Prelude.{◌≡◌, ℕ, Bool, List, length}
use Rattle.std.specs.List.{All}
use Rattle.bspl_types.specs.declared.event.Event.{Event}
use Rattle.bspl_types.specs.declared.expanded.Expanded.{Expanded}
use Rattle.bspl_types.specs.declared.property.Property.TheVariants as properties
use Rattle.bspl_types.specs.History.{instance_of}
use Rattle.clause_encoding.specs.Formula.{IsSafetyFormula}
use Rattle.enactment_model.specs.Legal.{IsLegalRun}
use Rattle.enactment_model.specs.LeastConflict.{IsLeastConflict}
use Rattle.enactment_model.specs.Safety.{SafeProtocol}
use Rattle.sat_solver.specs.Outcome.{IsEmptyLog}
use Rattle.witness_replay.specs.Refuting.{IsRefutingRun}
use Rattle.witness_replay.specs.Witness.{key_of_ones}
use Rattle.verdict.specs.declared.outcome.Safety.{Safety}
use Rattle.verdict.specs.declared.outcome.Safety.TheVariants.{Safe, Undecided, Unsafe}
use Rattle.verdict.specs.Decision.{IsHeldVerdict, IsUndecidedVerdict}

-- the protocol is not safe; the run is that of an assignment, cut at its least conflict: it is
-- legal, all of it under the key of all ones, and its last event is that conflict's second producer
pub record IsUnsafeVerdict (x : Expanded) (run : List Event) (param first second : ℕ)
    : Type 0 where
  pub assignment : ℕ → Bool
  pub refuting : IsRefutingRun properties.Safety x assignment run
  pub legal : IsLegalRun x run
  pub ones : All (λ e. (instance_of e).key ≡ key_of_ones x) run
  pub least : IsLeastConflict x run (record { first = first; second = second; param = param })
  pub last : second ≡ length run
  pub unsafe : ¬ SafeProtocol x

-- the answer is right
abbrev pub IsRight : Expanded → ℕ → Safety → Type 0
IsRight x budget (Safe log) = IsHeldVerdict properties.Safety x budget log
IsRight x budget (Unsafe run param first second) = IsUnsafeVerdict x run param first second
IsRight x budget (Undecided log) = IsUndecidedVerdict (IsSafetyFormula x) budget log

-- the answer is that the protocol is safe, by a log without steps and removals
abbrev pub IsSafeByEmptyLog : Safety → Type 0
IsSafeByEmptyLog (Safe log) = IsEmptyLog log
IsSafeByEmptyLog (Unsafe run param first second) = ⊥
IsSafeByEmptyLog (Undecided log) = ⊥
