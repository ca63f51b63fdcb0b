-- What a search keeps of one protocol: the clauses that all messages share, and the runs so far.
use Rattle.std.specs.Prelude.{◌≡◌, ℕ, Bool, List}
use Rattle.std.specs.List.{All}
use Rattle.bspl_types.specs.declared.event.Event.{Event}
use Rattle.bspl_types.specs.declared.expanded.Expanded.{Expanded}
use Rattle.clause_core.specs.declared.formula.Formula.{Formula}
use Rattle.clause_core.specs.Clause.{SatisfiesAll}
use Rattle.clause_encoding.specs.Families.{shared_clauses}
use Rattle.clause_encoding.specs.Formula.{safety_variables}
use Rattle.clause_encoding.specs.Ordered.{IsSharedFormula}
use Rattle.enactment_model.specs.Legal.{IsLegalRun}
use Rattle.witness_replay.specs.Witness.{IsRunOfAssignment}
use Rattle.enactability.specs.declared.outcome.Enact.{Enact}
use Rattle.enactability.specs.declared.outcome.Enact.TheVariants.{Enacted}
use Rattle.enactability.specs.Answer.{IsCutAfter, IsEnacted}

-- the run is legal, and that of an assignment that satisfies the clauses that all formulas share
pub record IsModelRun (x : Expanded) (run : List Event) : Type 0 where
  pub assignment : ℕ → Bool
  pub satisfied : SatisfiesAll assignment (shared_clauses x (safety_variables x))
  pub run_of : IsRunOfAssignment x (safety_variables x) assignment run
  pub legal : IsLegalRun x run

-- the formula asks for no message yet, and each run is that of a model
pub record IsSearch (x : Expanded) (formula : Formula) (found : List (List Event)) : Type 0 where
  pub shared : IsSharedFormula x (safety_variables x) formula
  pub runs : All (IsModelRun x) found

-- the answer is a run, which is right
pub record HasRightRun (x : Expanded) (m : ℕ) (enact : Enact) : Type 0 where
  pub run : List Event
  pub is_enacted : enact ≡ Enacted run
  pub right : IsEnacted x m run

-- the run of a model, cut after its first emission of the message, is the evidence for it
abbrev pub CutEnacts : Type 0
CutEnacts =
    (x : Expanded) (m : ℕ) (whole run : List Event) → IsModelRun x whole →
    IsCutAfter m whole run → IsEnacted x m run
