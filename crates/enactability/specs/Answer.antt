-- When the answer to whether a message can be enacted is right: with the evidence for it.
use Rattle.std.specs.Prelude.{◌≡◌, ◌≢◌, ℕ, ◌≤◌, Bool, List, [], ◌∷◌, ◌++◌, length}
use Rattle.std.specs.List.{All, Contains}
use Rattle.bspl_types.specs.declared.event.Event.{Event}
use Rattle.bspl_types.specs.declared.event.Event.TheVariants.{Emit}
use Rattle.bspl_types.specs.declared.event.Instance.{Instance}
use Rattle.bspl_types.specs.declared.expanded.Expanded.{Expanded}
use Rattle.bspl_types.specs.History.{instance_of}
use Rattle.clause_core.specs.declared.formula.Formula.{Formula}
use Rattle.clause_core.specs.Clause.{SatisfiesAll}
use Rattle.clause_encoding.specs.Formula.{safety_variables}
use Rattle.enactment_model.specs.Legal.{IsLegalRun}
use Rattle.refutation_log.specs.declared.refutation.Log.{Log}
use Rattle.refutation_log.specs.LogText.{LogInRange}
use Rattle.refutation_log.specs.Resolution.{Accepts, IsNew}
use Rattle.verdict.specs.Decision.{IsUndecidedVerdict}
use Rattle.witness_replay.specs.Witness.{IsRunOfAssignment, key_of_ones}
use Rattle.enactability.specs.declared.outcome.Enact.{Enact}
use Rattle.enactability.specs.declared.outcome.Enact.TheVariants.{Dead, Enacted, Undecided}
use Rattle.enactability.specs.Enactable.{Enactable}
use Rattle.enactability.specs.EnactFormula.{IsEnactFormula, enact_clauses}

-- the run is the whole one up to its first emission of the message
pub record IsCutAfter (m : ℕ) (whole run : List Event) : Type 0 where
  pub before : List Event
  pub instance : Instance
  pub rest : List Event
  pub last : run ≡ before ++ Emit instance ∷ []
  pub message_is : instance.message ≡ m
  pub cut : whole ≡ run ++ rest
  pub first : (i : Instance) → Contains before (Emit i) → i.message ≢ m

-- the run is that of an assignment, so cut; all of it is under the key of ones
pub record IsEnactingRun (x : Expanded) (m : ℕ) (v : ℕ → Bool) (run : List Event) : Type 0 where
  pub whole : List Event
  pub run_of : IsRunOfAssignment x (safety_variables x) v whole
  pub cut : IsCutAfter m whole run
  pub ones : All (λ e. (instance_of e).key ≡ key_of_ones x) run

-- the run is legal, and that of a model of the formula, so the message can be enacted
pub record IsEnacted (x : Expanded) (m : ℕ) (run : List Event) : Type 0 where
  pub assignment : ℕ → Bool
  pub satisfied : SatisfiesAll assignment (enact_clauses x m)
  pub enacting : IsEnactingRun x m assignment run
  pub legal : IsLegalRun x run
  pub enactable : Enactable x m

-- no legal run emits the message; the log is new, within the budget, and refutes the formula
pub record IsDead (x : Expanded) (m budget : ℕ) (log : Log) : Type 0 where
  pub formula : Formula
  pub is_formula : IsEnactFormula x m formula
  pub accepts : Accepts formula log
  pub new : IsNew formula log
  pub within : length log.steps ≤ budget
  pub dead : ¬ Enactable x m

-- the answer on the message is right
abbrev pub IsRightEnact : Expanded → ℕ → ℕ → Enact → Type 0
IsRightEnact x m budget (Enacted run) = IsEnacted x m run
IsRightEnact x m budget (Dead log) = IsDead x m budget log
IsRightEnact x m budget (Undecided log) = IsUndecidedVerdict (IsEnactFormula x m) budget log

-- the numbers of the answer's log, if it has one, are in range
abbrev pub HasEnactLogInRange : Enact → Type 0
HasEnactLogInRange (Enacted run) = Unit {0}
HasEnactLogInRange (Dead log) = LogInRange log
HasEnactLogInRange (Undecided log) = LogInRange log
