-- What the check of a formula says of the protocol.
use Rattle.std.proofs.Common.{◌≡◌, ◌↔◌, Result, Ok, Err}
use Rattle.std.specs.Prelude.{OnOk}
use Rattle.bspl_types.specs.declared.expanded.Expanded.{Expanded}
use Rattle.bspl_types.specs.declared.property.Property.{Property}
use Rattle.bspl_types.specs.Admission.{IsAdmitted}
use Rattle.clause_core.specs.declared.formula.Formula.{Formula}
use Rattle.clause_core.specs.Clause.{IsUnsatisfiable}
use Rattle.clause_encoding.specs.Formula.{IsFormula, clauses_of}
use Rattle.clause_encoding.specs.Laws.{ClausesAreDetermined}
use Rattle.enactment_model.specs.Property.{Holds}
use Rattle.first_occurrences.specs.Headline.{UnsatisfiableHolds}
use Rattle.log_checker.specs.declared.refusal.Reject.{Reject}
use Rattle.log_checker.specs.FirstFailure.{AcceptedDoesNotFail, ClausesDecideAcceptance, ClausesDecideFailure, FailsFirst, HasOneFailure}
use Rattle.refutation_log.specs.declared.refutation.Log.{Log}
use Rattle.refutation_log.specs.Resolution.{Accepts}
use Rattle.protocol_check.specs.Check.{AcceptsLog, FailsLog}
use Rattle.protocol_check.specs.Laws.{AcceptedLogDoesNotFail, LogFailsOnce}

-- two formulas of the property have the same clauses
formulas_agree : ClausesAreDetermined → (property : Property) (x : Expanded) (f g : Formula) → IsFormula property x f → IsFormula property x g → f.clauses ≡ g.clauses
formulas_agree one_list property x f g one other = one_list (clauses_of property x) f.clauses g.clauses one.clauses other.clauses

-- a log that some such formula accepts is accepted for each
pub accepts_each : ClausesDecideAcceptance → ClausesAreDetermined → (property : Property) (x : Expanded) (f : Formula) (log : Log) → IsFormula property x f → AcceptsLog property x log → Accepts f log
accepts_each moved one_list property x f log is accepts = moved accepts.formula f log (formulas_agree one_list property x accepts.formula f accepts.is_formula is) accepts.accepts

-- and its first failure is that for each
pub fails_each : ClausesDecideFailure → ClausesAreDetermined → (property : Property) (x : Expanded) (f : Formula) (log : Log) (reject : Reject) → IsFormula property x f → FailsLog property x log reject → FailsFirst f log reject
fails_each moved one_list property x f log reject is fails = moved fails.formula f log reject (formulas_agree one_list property x fails.formula f fails.is_formula is) fails.fails

-- one first failure
pub one_failure : ClausesDecideFailure → ClausesAreDetermined → HasOneFailure → LogFailsOnce
one_failure moved one_list once property x log first second one other =
    once one.formula log first second one.fails (fails_each moved one_list property x one.formula log second one.is_formula other)

-- none of an accepted log
pub no_failure : ClausesDecideFailure → ClausesAreDetermined → AcceptedDoesNotFail → AcceptedLogDoesNotFail
no_failure moved one_list never property x log reject accepts fails =
    never accepts.formula log reject accepts.accepts (fails_each moved one_list property x accepts.formula log reject accepts.is_formula fails)

-- an accepted log proves the property
pub holds_if_accepted : UnsatisfiableHolds → (property : Property) (x : Expanded) (f : Formula) (r : Result (Unit {0}) Reject) → IsAdmitted x → IsFormula property x f → OnOk r (IsUnsatisfiable f.clauses) → OnOk r (Holds property x)
holds_if_accepted holds property x f (Ok done) admitted is none = holds property x f admitted is none
holds_if_accepted holds property x f (Err reject) admitted is none = tt

-- it is accepted for the protocol
pub accepted_if_ok : (property : Property) (x : Expanded) (f : Formula) (log : Log) (r : Result (Unit {0}) Reject) → IsFormula property x f → OnOk r (Accepts f log) → OnOk r (AcceptsLog property x log)
accepted_if_ok property x f log (Ok done) is accepts = record { formula = f; is_formula = is; accepts = accepts }
accepted_if_ok property x f log (Err reject) is accepts = tt

-- each answer is the first failure for the protocol, and it is answered
pub fails_exactly : ClausesDecideFailure → ClausesAreDetermined → (property : Property) (x : Expanded) (f : Formula) (log : Log) (r : Result (Unit {0}) Reject) (e : Reject) → IsFormula property x f → (r ≡ Err e ↔ FailsFirst f log e) → (r ≡ Err e ↔ FailsLog property x log e)
fails_exactly moved one_list property x f log r e is exactly = (
  λ same. record { formula = f; is_formula = is; fails = exactly.0 same },
  λ fails. exactly.1 (fails_each moved one_list property x f log e is fails),
)
