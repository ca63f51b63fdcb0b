-- What a log does to a formula it does to each formula with the same clauses.
use Rattle.std.proofs.Common.{◌≡◌, List, subst}
use Rattle.clause_core.specs.declared.formula.Formula.{Formula}
use Rattle.clause_core.specs.declared.literal.Lit.{Lit}
use Rattle.log_checker.specs.declared.refusal.Reject.{Reject}
use Rattle.log_checker.specs.declared.refusal.Reject.TheVariants.{NoClause, NoDrop, NoPivot, NotEmpty, NoMemory}
use Rattle.log_checker.specs.ChainFailure.{LacksClause, LacksPivot}
use Rattle.log_checker.specs.FirstFailure.{AtDrop, AtStep, FailsAt, FailsFirst, LacksEmpty}
use Rattle.refutation_log.specs.declared.refutation.Log.{Log}
use Rattle.refutation_log.specs.Entries.{entries}
use Rattle.refutation_log.specs.Ledger.{IsLive}
use Rattle.refutation_log.specs.Resolution.{Accepts, ResolvesBy}

-- a log that is accepted for one formula is for another with the same clauses
pub accepts_moved : (f g : Formula) (log : Log) → f.clauses ≡ g.clauses → Accepts f log → Accepts g log
accepts_moved f g log same accepts = record {
  derived = accepts.derived;
  resolves = subst (λ (clauses : List (List Lit)). ResolvesBy IsLive clauses log accepts.derived) same accepts.resolves;
  empty = rw (← same) accepts.empty;
}

-- and so is its first failure
pub fails_moved : (f g : Formula) (log : Log) (reject : Reject) → f.clauses ≡ g.clauses → FailsFirst f log reject → FailsFirst g log reject
fails_moved f g log (NoClause step) same fails = subst (λ clauses. FailsAt clauses (entries log) (AtStep step LacksClause)) same fails
fails_moved f g log (NoPivot step link) same fails = subst (λ clauses. FailsAt clauses (entries log) (AtStep step (LacksPivot link))) same fails
fails_moved f g log (NoDrop after item) same fails = subst (λ clauses. FailsAt clauses (entries log) (AtDrop after item)) same fails
fails_moved f g log NotEmpty same fails = subst (λ clauses. LacksEmpty clauses (entries log)) same fails
fails_moved f g log NoMemory same fails = absurd fails
