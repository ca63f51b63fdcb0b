-- Why a link, a chain, an entry and a log stop, by the cause that is named.
use Rattle.std.specs.Prelude.{◌≡◌, ℕ, List}
use Rattle.clause_core.specs.declared.literal.Lit.{Lit}
use Rattle.clause_core.specs.declared.formula.Formula.{Formula}
use Rattle.clause_core.specs.Numbering.{Numbering}
use Rattle.refutation_log.specs.declared.refutation.Log.{Log}
use Rattle.refutation_log.specs.declared.refutation.Entry.{Entry}
use Rattle.refutation_log.specs.Ledger.{Ledger}
use Rattle.refutation_log.specs.declared.refutation.Link.{Link}
use Rattle.refutation_log.specs.declared.refutation.Chain.{Chain}
use Rattle.log_checker.specs.declared.refusal.ChainError.{ChainError}
use Rattle.log_checker.specs.declared.refusal.ChainError.TheVariants.{NoClause, NoPivot, NoMemory}
use Rattle.log_checker.specs.declared.refusal.Reject.{Reject}
use Rattle.log_checker.specs.declared.refusal.Reject.TheVariants as rejects
use Rattle.log_checker.specs.Derivation.{IsAcceptedWith}
use Rattle.log_checker.specs.ChainFailure.{HasNoClause, CannotResolve, LacksClause, LacksPivot}
use Rattle.log_checker.specs.FirstFailure.{AtStep, AtDrop, FailsAt, FailsFirst}

-- why the clause has no resolvent with that of the link of this number
abbrev pub LinkStops : Numbering → List Lit → Link → ℕ → ChainError → Type 0
LinkStops numbering clause link number NoClause = HasNoClause numbering link.clause
LinkStops numbering clause link number (NoPivot named) =
    (named ≡ number) × CannotResolve numbering clause link
LinkStops numbering clause link number NoMemory = Unit {0}

-- why the chain has no clause
abbrev pub ChainStops : Numbering → Chain → ChainError → Type 0
ChainStops numbering chain NoClause = LacksClause numbering chain
ChainStops numbering chain (NoPivot link) = LacksPivot link numbering chain
ChainStops numbering chain NoMemory = Unit {0}

-- the answer if the step of this number has no clause
abbrev pub rejection : ℕ → ChainError → Reject
rejection step NoClause = rejects.NoClause step
rejection step (NoPivot link) = rejects.NoPivot step link
rejection step NoMemory = rejects.NoMemory

-- why the entry stops after `done` steps
abbrev pub EntryStops : ℕ → Ledger → Entry → Reject → Type 0
EntryStops done ledger entry (rejects.NoClause step) = AtStep step LacksClause done ledger entry
EntryStops done ledger entry (rejects.NoPivot step link) =
    AtStep step (LacksPivot link) done ledger entry
EntryStops done ledger entry (rejects.NoDrop after item) = AtDrop after item done ledger entry
EntryStops done ledger entry rejects.NotEmpty = ⊥
EntryStops done ledger entry rejects.NoMemory = Unit {0}

-- why the entries do not all run
abbrev pub EntriesStop : List (List Lit) → List Entry → Reject → Type 0
EntriesStop formula log rejects.NotEmpty = ⊥
EntriesStop formula log rejects.NoMemory = Unit {0}
EntriesStop formula log reject =
    FailsAt formula log (λ done ledger entry. EntryStops done ledger entry reject)

-- why the log is not accepted
abbrev pub LogStops : Formula → Log → Reject → Type 0
LogStops f log rejects.NoMemory = Unit {0}
LogStops f log reject = FailsFirst f log reject

-- the log is accepted for a formula of these clauses, and its steps derive these
abbrev pub AcceptsClausesWith : List (List Lit) → Log → List (List Lit) → Type 0
AcceptsClausesWith clauses log derived =
    (f : Formula) → f.clauses ≡ clauses → IsAcceptedWith f log derived

-- it is not, for this reason
abbrev pub ClausesStop : List (List Lit) → Log → Reject → Type 0
ClausesStop clauses log reject = (f : Formula) → f.clauses ≡ clauses → LogStops f log reject
