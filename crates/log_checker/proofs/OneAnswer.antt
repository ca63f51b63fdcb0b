-- The answer of the checker is determined.
use Rattle.std.proofs.Common.{◌≡◌, ◌≢◌, ◌↔◌, ◌⊎◌, inl, inr, List, Result, Ok, Err, IfErr, IfOk, OnOk, IsOkUnless, refl, sym, ap, subst, ◌∙◌}
use Rattle.clause_core.specs.declared.formula.Formula.{Formula}
use Rattle.clause_core.specs.declared.literal.Lit.{Lit}
use Rattle.clause_core.specs.Resolvent.{ResolventsAgree}
use Rattle.refutation_log.specs.declared.refutation.Log.{Log}
use Rattle.refutation_log.specs.Entries.{entries}
use Rattle.refutation_log.specs.Ledger.{all_live}
use Rattle.refutation_log.specs.Resolution.{Accepts}
use Rattle.log_checker.specs.declared.refusal.Reject.{Reject}
use Rattle.log_checker.specs.declared.refusal.Reject.TheVariants.{NoClause, NoPivot, NoDrop, NotEmpty, NoMemory}
use Rattle.log_checker.specs.FirstFailure.{FailsAt, LacksEmpty, FailsFirst}
use Rattle.log_checker.specs.Derivation.{IsAcceptedWith}
use Rattle.log_checker.specs.inner.Stops.{AcceptsClausesWith, ClausesStop, LogStops}
use Rattle.log_checker.proofs.Running.{runs_one}
use Rattle.log_checker.proofs.FailingEntries.{Stops, failure_blocks, failures_meet}

-- a log fails at an entry, or it has no empty clause
abbrev AtEntry : Formula → Log → Reject → Type 0
AtEntry f log reject = (reject ≢ NoMemory) × FailsAt f.clauses (entries log) (Stops reject)

at_entry : (f : Formula) (log : Log) (reject : Reject) → FailsFirst f log reject → (reject ≡ NotEmpty) ⊎ AtEntry f log reject
at_entry f log (NoClause step) fails = inr ((λ e. absurd cc), fails)
at_entry f log (NoPivot step link) fails = inr ((λ e. absurd cc), fails)
at_entry f log (NoDrop after item) fails = inr ((λ e. absurd cc), fails)
at_entry f log NotEmpty fails = inl refl
at_entry f log NoMemory fails = absurd fails

lacks_empty : (f : Formula) (log : Log) (reject : Reject) → reject ≡ NotEmpty → FailsFirst f log reject → LacksEmpty f.clauses (entries log)
lacks_empty f log reject is fails = subst (FailsFirst f log) is fails

-- what is accepted fails nowhere
pub accepted_not_failing : ResolventsAgree → (f : Formula) (log : Log) (reject : Reject) → FailsFirst f log reject → ¬ Accepts f log
accepted_not_failing agree f log reject fails accepts =
    elim (at_entry f log reject fails) [
      | inl is ↦
          let lacks = lacks_empty f log reject is fails in
          let same = runs_one agree (all_live f.clauses) accepts.resolves.ledger lacks.ledger (entries log) accepts.derived lacks.derived accepts.resolves.runs lacks.runs in
          lacks.none (rw same.0 at accepts.empty)
      | inr at ↦ failure_blocks agree reject at.0 f.clauses (entries log) at.1 accepts.derived accepts.resolves.ledger accepts.resolves.runs
    ]

-- a log has one first failure
pub one_failure : ResolventsAgree → (f : Formula) (log : Log) (first second : Reject) → FailsFirst f log first → FailsFirst f log second → first ≡ second
one_failure agree f log first second is_first is_second =
    elim (at_entry f log first is_first) [
      | inl empty ↦
          let lacks = lacks_empty f log first empty is_first in
          elim (at_entry f log second is_second) [
            | inl other ↦ empty ∙ sym other
            | inr at ↦ absurd (failure_blocks agree second at.0 f.clauses (entries log) at.1 lacks.derived lacks.ledger lacks.runs)
          ]
      | inr at ↦ elim (at_entry f log second is_second) [
        | inl empty ↦
            let lacks = lacks_empty f log second empty is_second in
            absurd (failure_blocks agree first at.0 f.clauses (entries log) at.1 lacks.derived lacks.ledger lacks.runs)
        | inr other ↦ failures_meet agree first second at.0 other.0 f.clauses (entries log) at.1 other.1
      ]
    ]

fails_first : (f : Formula) (log : Log) (reject : Reject) → reject ≢ NoMemory → LogStops f log reject → FailsFirst f log reject
fails_first f log (NoClause step) other stops = stops
fails_first f log (NoPivot step link) other stops = stops
fails_first f log (NoDrop after item) other stops = stops
fails_first f log NotEmpty other stops = stops
fails_first f log NoMemory other stops = absurd (other refl)

-- only running out of memory keeps the checker from accepting
pub accepts_exactly : {X : Type 0} → ResolventsAgree → (f : Formula) (log : Log) (r : Result X Reject) → IfErr r (LogStops f log) → Accepts f log → IsOkUnless r NoMemory
accepts_exactly agree f log (Ok done) stops accepts = tt
accepts_exactly agree f log (Err NoMemory) stops accepts = refl
accepts_exactly agree f log (Err (NoClause step)) stops accepts = absurd (accepted_not_failing agree f log (NoClause step) stops accepts)
accepts_exactly agree f log (Err (NoPivot step link)) stops accepts = absurd (accepted_not_failing agree f log (NoPivot step link) stops accepts)
accepts_exactly agree f log (Err (NoDrop after item)) stops accepts = absurd (accepted_not_failing agree f log (NoDrop after item) stops accepts)
accepts_exactly agree f log (Err NotEmpty) stops accepts = absurd (accepted_not_failing agree f log NotEmpty stops accepts)

-- memory aside, the answer is the first failure
pub rejects_exactly : {X : Type 0} → ResolventsAgree → (f : Formula) (log : Log) (r : Result X Reject) → OnOk r (Accepts f log) → IfErr r (LogStops f log) → r ≢ Err NoMemory → (e : Reject) → (r ≡ Err e) ↔ FailsFirst f log e
rejects_exactly agree f log (Ok done) accepts stops memory e =
    (λ is. absurd cc, λ fails. absurd (accepted_not_failing agree f log e fails accepts))
rejects_exactly agree f log (Err reject) accepts stops memory e =
    let fails = fails_first f log reject (λ is. memory (ap Err is)) stops in
    (λ is. let same : reject ≡ e = cc in rw same at fails, λ other. ap Err (one_failure agree f log reject e fails other))

-- what is said of clauses is said of each formula that has them
pub stops_for : {X : Type 0} → (clauses : List (List Lit)) (f : Formula) (log : Log) (r : Result X Reject) → f.clauses ≡ clauses → IfErr r (ClausesStop clauses log) → IfErr r (LogStops f log)
stops_for clauses f log (Ok done) same stops = tt
stops_for clauses f log (Err reject) same stops = stops f same

-- the same of the clauses that an accepted log derives
pub accepted_with : (clauses : List (List Lit)) (f : Formula) (log : Log) (r : Result (List (List Lit)) Reject) → f.clauses ≡ clauses → IfOk r (AcceptsClausesWith clauses log) → IfOk r (IsAcceptedWith f log)
accepted_with clauses f log (Ok derived) same accepts = accepts f same
accepted_with clauses f log (Err reject) same accepts = tt

-- a log is accepted by the clauses that it derives
pub accepted_by : (f : Formula) (log : Log) (r : Result (List (List Lit)) Reject) → IfOk r (IsAcceptedWith f log) → OnOk r (Accepts f log)
accepted_by f log (Ok derived) is = record { derived = derived; resolves = is.resolves; empty = is.empty }
accepted_by f log (Err reject) is = tt
