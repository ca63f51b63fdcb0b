-- Laws of what a log derives.
use Rattle.std.specs.Prelude.{◌≡◌, ℕ, ◌↔◌, List, [], ◌∷◌, ◌++◌, length, Contains}
use Rattle.clause_core.specs.declared.literal.Lit.{Lit}
use Rattle.clause_core.specs.Literal.{negated}
use Rattle.clause_core.specs.declared.formula.Formula.{Formula}
use Rattle.clause_core.specs.Numbering.{numbered}
use Rattle.refutation_log.specs.declared.refutation.Chain.{Chain}
use Rattle.refutation_log.specs.declared.refutation.Log.{Log}
use Rattle.refutation_log.specs.declared.refutation.Entry.{Entry}
use Rattle.refutation_log.specs.Ledger.{Ledger}
use Rattle.refutation_log.specs.Resolution.{Derives, DerivesAll, Runs, ResolvesBy, LogResolves}
use Rattle.refutation_log.specs.Resolution.{IsNew, IsNewClause, AreNewClauses}

-- a step at the end derives its clause from all the clauses before it
abbrev pub StepsAppend : Type 0
StepsAppend =
    (clauses derived : List (List Lit)) (steps : List Chain) (chain : Chain) (clause : List Lit) →
    DerivesAll clauses steps derived → Derives (numbered (clauses ++ derived)) chain clause →
    DerivesAll clauses (steps ++ chain ∷ []) (derived ++ clause ∷ [])

-- new clauses stay new if a new one comes after them
abbrev pub NewClausesAppend : Type 0
NewClausesAppend =
    (earlier derived : List (List Lit)) (clause : List Lit) →
    AreNewClauses earlier derived → IsNewClause (earlier ++ derived) clause →
    AreNewClauses earlier (derived ++ clause ∷ [])

-- entries after entries run on from where those ended
abbrev pub RunsAppend : (Ledger → ℕ → Type 0) → Type 0
RunsAppend MayEnd =
    (first middle last : Ledger) (before after : List Entry)
    (derived more : List (List Lit)) → Runs MayEnd first before derived middle →
    Runs MayEnd middle after more last → Runs MayEnd first (before ++ after) (derived ++ more) last

-- a log without removals resolves if each step derives its clause from all before it
abbrev pub PlainLogsResolve : (Ledger → ℕ → Type 0) → Type 0
PlainLogsResolve MayEnd =
    (clauses derived : List (List Lit)) (log : Log) →
    log.removals ≡ [] →
    ResolvesBy MayEnd clauses log derived ↔ DerivesAll clauses log.steps derived

-- a new log resolves
abbrev pub NewLogsResolve : Type 0
NewLogsResolve = (f : Formula) (log : Log) (new : IsNew f log) → LogResolves f log new.derived

-- a log that resolves derives a clause for each step
abbrev pub StepsAreCounted : Type 0
StepsAreCounted =
    (f : Formula) (log : Log) (derived : List (List Lit)) →
    LogResolves f log derived → length derived ≡ length log.steps

-- the clause has no literal together with its negation, and contains no earlier clause
pub record IsIrredundant (earlier : List (List Lit)) (clause : List Lit) : Type 0 where
  pub no_opposites : (l : Lit) → Contains clause l → ¬ Contains clause (negated l)
  pub contains_none : (other : List Lit) → Contains earlier other →
      ¬ ((l : Lit) → Contains other l → Contains clause l)

-- each clause of a new log is, after those of the formula and the derived ones before it
abbrev pub NewClausesAreIrredundant : Type 0
NewClausesAreIrredundant =
    (f : Formula) (log : Log) (new : IsNew f log) (before after : List (List Lit))
    (clause : List Lit) → new.derived ≡ before ++ clause ∷ after →
    IsIrredundant (f.clauses ++ before) clause
