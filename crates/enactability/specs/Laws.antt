-- Why a formula without a model speaks of all runs, and each model gives one; what a log and a text
-- are answered by. Each statement is the contract of a function.
use Rattle.std.specs.Prelude.{◌≡◌, ◌≢◌, ◌↔◌, ◌<◌, ◌≤◌, ℕ, Bool, List, length}
use Rattle.bspl_types.specs.declared.event.Event.{Event}
use Rattle.bspl_types.specs.declared.expanded.Expanded.{Expanded}
use Rattle.clause_core.specs.declared.formula.Formula.{Formula}
use Rattle.clause_core.specs.Clause.{IsUnsatisfiable, SatisfiesAll}
use Rattle.log_checker.specs.declared.refusal.Reject.{Reject}
use Rattle.refutation_log.specs.declared.refusal.LogRefusal.{LogRefusal}
use Rattle.refutation_log.specs.declared.refusal.LogRefusal.TheVariants.{NoMemory}
use Rattle.refutation_log.specs.declared.refutation.Log.{Log}
use Rattle.refutation_log.specs.LogText.{LogInRange}
use Rattle.enactability.specs.Answer.{IsEnacted}
use Rattle.enactability.specs.Check.{AcceptsDead, FailsDead}
use Rattle.enactability.specs.DeadText.{IsDeadText, dead_text}
use Rattle.enactability.specs.Enactable.{Enactable}
use Rattle.enactability.specs.EnactFormula.{IsEnactFormula, enact_clauses}
use Rattle.enactability.specs.Refusal.{IsRefusedDead}

-- if the formula has no model, then no legal run, over any number of keys, emits the message
abbrev pub NoModelIsDead : Type 0
NoModelIsDead =
    (x : Expanded) (m : ℕ) (f : Formula) → IsEnactFormula x m f →
    IsUnsatisfiable f.clauses → ¬ Enactable x m

-- a run that a model gives, cut after its first emission of the message
pub record HasEnactingRun (x : Expanded) (m : ℕ) : Type 0 where
  pub run : List Event
  pub enacted : IsEnacted x m run

-- each model gives such a run
abbrev pub ModelEnacts : Type 0
ModelEnacts =
    (x : Expanded) (m : ℕ) (v : ℕ → Bool) → m < length x.messages →
    SatisfiesAll v (enact_clauses x m) → HasEnactingRun x m

-- so a message is dead exactly if its clauses have no model
abbrev pub DeadExactlyIfNoModel : Type 0
DeadExactlyIfNoModel =
    (x : Expanded) (m : ℕ) → m < length x.messages →
    (¬ Enactable x m) ↔ IsUnsatisfiable (enact_clauses x m)

-- the clauses are few
abbrev pub EnactClausesAreFew : Type 0
EnactClausesAreFew = (x : Expanded) (m : ℕ) → length (enact_clauses x m) ≤ 8000001

-- a log has one first failure at most
abbrev pub DeadLogFailsOnce : Type 0
DeadLogFailsOnce =
    (x : Expanded) (m : ℕ) (log : Log) (first second : Reject) →
    FailsDead x m log first → FailsDead x m log second → first ≡ second

-- and none if it is accepted
abbrev pub AcceptedDeadDoesNotFail : Type 0
AcceptedDeadDoesNotFail =
    (x : Expanded) (m : ℕ) (log : Log) (reject : Reject) →
    AcceptsDead x m log → ¬ FailsDead x m log reject

-- what is written of a log is a text of it
abbrev pub WrittenIsDeadText : Type 0
WrittenIsDeadText =
    (x : Expanded) (m : ℕ) (log : Log) → m < length x.messages → LogInRange log →
    IsDeadText x (dead_text x m log) m log

-- a text is that of one message and one log
abbrev pub TextHasOneDeadLog : Type 0
TextHasOneDeadLog =
    (x : Expanded) (text : List ℕ) (m n : ℕ) (log another : Log) →
    IsDeadText x text m log → IsDeadText x text n another → (m ≡ n) × (log ≡ another)

-- a text is refused for one thing
abbrev pub TextHasOneDeadRefusal : Type 0
TextHasOneDeadRefusal =
    (x : Expanded) (text : List ℕ) (refusal other : LogRefusal) → refusal ≢ NoMemory →
    other ≢ NoMemory → IsRefusedDead x text refusal → IsRefusedDead x text other →
    refusal ≡ other

-- and not both
abbrev pub DeadLogIsNotRefused : Type 0
DeadLogIsNotRefused =
    (x : Expanded) (text : List ℕ) (m : ℕ) (log : Log) (refusal : LogRefusal) →
    refusal ≢ NoMemory → IsDeadText x text m log → ¬ IsRefusedDead x text refusal

-- a log has no more steps than its text has bytes
abbrev pub DeadStepsAreFewerThanBytes : Type 0
DeadStepsAreFewerThanBytes =
    (x : Expanded) (text : List ℕ) (m : ℕ) (log : Log) → IsDeadText x text m log →
    length log.steps ≤ length text
