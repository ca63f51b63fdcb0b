-- The first failure of a log, in the order in which a reader of it comes to it.
use Rattle.std.specs.Prelude.{◌≡◌, ℕ, ◌+◌, Some, List, [], ◌∷◌, ◌++◌, length, take, Contains, slice_get}
use Rattle.clause_core.specs.declared.literal.Lit.{Lit}
use Rattle.clause_core.specs.declared.formula.Formula.{Formula}
use Rattle.clause_core.specs.Clause.{IsUnsatisfiable}
use Rattle.clause_core.specs.Numbering.{Numbering, live}
use Rattle.refutation_log.specs.declared.refutation.Chain.{Chain}
use Rattle.refutation_log.specs.declared.refutation.Log.{Log}
use Rattle.refutation_log.specs.declared.refutation.Entry.{Entry}
use Rattle.refutation_log.specs.declared.refutation.Entry.TheVariants.{Step, Drop}
use Rattle.refutation_log.specs.Entries.{entries}
use Rattle.refutation_log.specs.Ledger.{Ledger, all_live, without_all, AllRemoved, IsLive}
use Rattle.refutation_log.specs.Resolution.{Accepts, Runs}
use Rattle.log_checker.specs.ChainFailure.{HasNoClause, LacksClause, LacksPivot}
use Rattle.log_checker.specs.declared.refusal.Reject.{Reject}
use Rattle.log_checker.specs.declared.refusal.Reject.TheVariants.{NoClause, NoPivot, NoDrop, NotEmpty, NoMemory}

-- the numbers before this one, the item-th, are of live clauses, and this one is not
pub record LacksLive (ledger : Ledger) (numbers : List ℕ) (item : ℕ) : Type 0 where
  pub index : ℕ
  pub counted : item ≡ index + 1
  pub number : ℕ
  pub next : slice_get numbers index ≡ Some number
  pub before : AllRemoved IsLive ledger (take index numbers)
  pub lacks : HasNoClause (live (without_all ledger (take index numbers))) number

-- the entry is the step of this number, from 1, and fails so
abbrev pub AtStep : ℕ → (Numbering → Chain → Type 0) → ℕ → Ledger → Entry → Type 0
AtStep step Failure done ledger (Step chain) = (step ≡ done + 1) × Failure (live ledger) chain
AtStep step Failure done ledger (Drop numbers) = ⊥

-- the entry is a removal after `after` steps, of which the item-th number is not live
abbrev pub AtDrop : ℕ → ℕ → ℕ → Ledger → Entry → Type 0
AtDrop after item done ledger (Step chain) = ⊥
AtDrop after item done ledger (Drop numbers) = (after ≡ done) × LacksLive ledger numbers item

-- the entries before this one do not fail, and it does; each step so far derived one clause
pub record FailsAt
    (formula : List (List Lit)) (log : List Entry)
    (Failure : ℕ → Ledger → Entry → Type 0) : Type 0 where
  pub before : List Entry
  pub entry : Entry
  pub after : List Entry
  pub entries : log ≡ before ++ entry ∷ after
  pub derived : List (List Lit)
  pub ledger : Ledger
  pub runs : Runs IsLive (all_live formula) before derived ledger
  pub fails : Failure (length derived) ledger entry

-- no entry fails, and no clause is empty
pub record LacksEmpty (formula : List (List Lit)) (log : List Entry) : Type 0 where
  pub derived : List (List Lit)
  pub ledger : Ledger
  pub runs : Runs IsLive (all_live formula) log derived ledger
  pub none : ¬ Contains (formula ++ derived) []

-- the first failure of the log is the one that the answer names
abbrev pub FailsFirst : Formula → Log → Reject → Type 0
FailsFirst f log (NoClause step) = FailsAt f.clauses (entries log) (AtStep step LacksClause)
FailsFirst f log (NoPivot step link) =
    FailsAt f.clauses (entries log) (AtStep step (LacksPivot link))
FailsFirst f log (NoDrop after item) = FailsAt f.clauses (entries log) (AtDrop after item)
FailsFirst f log NotEmpty = LacksEmpty f.clauses (entries log)
FailsFirst f log NoMemory = ⊥

-- no valuation satisfies a formula for which a log is accepted
abbrev pub AcceptedIsUnsatisfiable : Type 0
AcceptedIsUnsatisfiable = (f : Formula) (log : Log) → Accepts f log → IsUnsatisfiable f.clauses

-- what a log does to a formula depends on the formula's clauses alone: that it is accepted
abbrev pub ClausesDecideAcceptance : Type 0
ClausesDecideAcceptance =
    (f g : Formula) (log : Log) → f.clauses ≡ g.clauses → Accepts f log → Accepts g log

-- and where it fails first
abbrev pub ClausesDecideFailure : Type 0
ClausesDecideFailure =
    (f g : Formula) (log : Log) (reject : Reject) → f.clauses ≡ g.clauses →
    FailsFirst f log reject → FailsFirst g log reject

-- a log has one first failure at most
abbrev pub HasOneFailure : Type 0
HasOneFailure =
    (f : Formula) (log : Log) (first second : Reject) →
    FailsFirst f log first → FailsFirst f log second → first ≡ second

-- and none if it is accepted
abbrev pub AcceptedDoesNotFail : Type 0
AcceptedDoesNotFail =
    (f : Formula) (log : Log) (reject : Reject) → Accepts f log → ¬ FailsFirst f log reject
