-- When the answer on a protocol's liveness is right: each one with the evidence for it.
use Rattle.std.specs.Prelude.{◌≡◌, ℕ, Bool, List}
use Rattle.std.specs.List.{All}
use Rattle.bspl_types.specs.declared.event.Event.{Event}
use Rattle.bspl_types.specs.declared.expanded.Expanded.{Expanded}
use Rattle.bspl_types.specs.declared.property.Property.TheVariants as properties
use Rattle.bspl_types.specs.History.{instance_of}
use Rattle.clause_encoding.specs.Formula.{IsLivenessFormula}
use Rattle.enactment_model.specs.FirstUnbound.{IsFirstUnbound}
use Rattle.enactment_model.specs.Legal.{IsLegalRun}
use Rattle.enactment_model.specs.Liveness.{LiveProtocol, Quiet}
use Rattle.witness_replay.specs.Refuting.{IsRefutingRun}
use Rattle.witness_replay.specs.Witness.{key_of_ones}
use Rattle.verdict.specs.declared.outcome.Liveness.{Liveness}
use Rattle.verdict.specs.declared.outcome.Liveness.TheVariants.{Live, NotLive, Undecided}
use Rattle.verdict.specs.Decision.{IsHeldVerdict, IsUndecidedVerdict}

-- the protocol is not live; the run is that of an assignment: it is legal, all of it under the key
-- of all ones, and quiet there, and the parameter is the first public one with a value that it
-- leaves unbound
pub record IsNotLiveVerdict (x : Expanded) (run : List Event) (param : ℕ) : Type 0 where
  pub assignment : ℕ → Bool
  pub refuting : IsRefutingRun properties.Liveness x assignment run
  pub legal : IsLegalRun x run
  pub ones : All (λ e. (instance_of e).key ≡ key_of_ones x) run
  pub quiet : Quiet x run (key_of_ones x)
  pub first : IsFirstUnbound x run (key_of_ones x) param
  pub not_live : ¬ LiveProtocol x

-- the answer is right
abbrev pub IsRightLiveness : Expanded → ℕ → Liveness → Type 0
IsRightLiveness x budget (Live log) = IsHeldVerdict properties.Liveness x budget log
IsRightLiveness x budget (NotLive run param) = IsNotLiveVerdict x run param
IsRightLiveness x budget (Undecided log) = IsUndecidedVerdict (IsLivenessFormula x) budget log
