-- What the check of a formula says of the message.
use Rattle.std.proofs.Common.{◌≡◌, ◌↔◌, ℕ, List, Result, Ok, Err}
use Rattle.std.specs.Prelude.{OnOk}
use Rattle.bspl_types.specs.declared.expanded.Expanded.{Expanded}
use Rattle.clause_core.specs.declared.formula.Formula.{Formula}
use Rattle.clause_core.specs.Clause.{IsUnsatisfiable}
use Rattle.clause_encoding.specs.Laws.{ClausesAreDetermined}
use Rattle.log_checker.specs.declared.refusal.Reject.{Reject}
use Rattle.log_checker.specs.FirstFailure.{AcceptedDoesNotFail, ClausesDecideFailure, FailsFirst, HasOneFailure}
use Rattle.refutation_log.specs.declared.refutation.Log.{Log}
use Rattle.refutation_log.specs.Resolution.{Accepts}
use Rattle.enactability.specs.Check.{AcceptsDead, FailsDead}
use Rattle.enactability.specs.EnactFormula.{IsEnactFormula, enact_clauses}
use Rattle.enactability.specs.Enactable.{Enactable}
use Rattle.enactability.specs.Laws.{AcceptedDeadDoesNotFail, DeadLogFailsOnce, NoModelIsDead}

module _ (one_list : ClausesAreDetermined) (x : Expanded) (m : ℕ) (f : Formula) (is : IsEnactFormula x m f) (log : Log) where
  -- two formulas of the message have the same clauses
  agree : (g : Formula) → IsEnactFormula x m g → g.clauses ≡ f.clauses
  agree g other = one_list (enact_clauses x m) g.clauses f.clauses other.clauses is.clauses

  -- so the first failure for some such formula is that for each
  fails_each : ClausesDecideFailure → (reject : Reject) → FailsDead x m log reject → FailsFirst f log reject
  fails_each moved reject fails = moved fails.formula f log reject (agree fails.formula fails.is_formula) fails.fails

  -- each answer is the first failure for the message, and it is answered
  pub fails_exactly : ClausesDecideFailure → (r : Result (Unit {0}) Reject) (e : Reject) → (r ≡ Err e ↔ FailsFirst f log e) → (r ≡ Err e ↔ FailsDead x m log e)
  fails_exactly moved r e exactly = (
    λ same. record { formula = f; is_formula = is; fails = exactly.0 same },
    λ fails. exactly.1 (fails_each moved e fails),
  )

-- one first failure
pub one_failure : ClausesDecideFailure → ClausesAreDetermined → HasOneFailure → DeadLogFailsOnce
one_failure moved one_list once x m log first second one other =
    once one.formula log first second one.fails (fails_each one_list x m one.formula one.is_formula log moved second other)

-- none of an accepted log
pub no_failure : ClausesDecideFailure → ClausesAreDetermined → AcceptedDoesNotFail → AcceptedDeadDoesNotFail
no_failure moved one_list never x m log reject accepts fails =
    never accepts.formula log reject accepts.accepts (fails_each one_list x m accepts.formula accepts.is_formula log moved reject fails)

-- a log that the formula accepts is accepted for the message
pub accepted_if_ok : (x : Expanded) (m : ℕ) (f : Formula) (log : Log) (r : Result (Unit {0}) Reject) → IsEnactFormula x m f → OnOk r (Accepts f log) → OnOk r (AcceptsDead x m log)
accepted_if_ok x m f log (Ok done) is accepts = record { formula = f; is_formula = is; accepts = accepts }
accepted_if_ok x m f log (Err reject) is accepts = tt

-- and then the message is dead
pub dead_if_ok : NoModelIsDead → (x : Expanded) (m : ℕ) (f : Formula) (r : Result (Unit {0}) Reject) → IsEnactFormula x m f → OnOk r (IsUnsatisfiable f.clauses) → OnOk r (¬ Enactable x m)
dead_if_ok law x m f (Ok done) is no_model = law x m f is no_model
dead_if_ok law x m f (Err reject) is no_model = tt
