-- What a table of clauses has.
use Rattle.std.specs.Prelude.{◌≡◌, Bool, List, [], ◌∷◌, ◌++◌, Some, None, if◌then◌else◌}
use Rattle.clause_core.specs.declared.literal.Lit.{Lit}
use Rattle.refutation_log.specs.declared.refutation.Entry.{Entry}
use Rattle.refutation_log.specs.Ledger.{Ledger, IsLive}
use Rattle.refutation_log.specs.Resolution.{Runs}

-- the clauses of the formula, the derived ones, and the ledger of both
pub record TableState : Type 0 where
  pub formula : List (List Lit)
  pub derived : List (List Lit)
  pub ledger : Ledger

-- a clause is live where its mark is set
abbrev pub ledger_of : List (List Lit) → List Bool → Ledger
ledger_of [] marks = []
ledger_of (clause ∷ clauses) [] = []
ledger_of (clause ∷ clauses) (mark ∷ marks) =
    (if mark then Some clause else None) ∷ ledger_of clauses marks

-- the entry leads from one table to the next
pub record EntryRuns (old : TableState) (entry : Entry) (new : TableState) : Type 0 where
  pub formula : new.formula ≡ old.formula
  pub more : List (List Lit)
  pub derived : new.derived ≡ old.derived ++ more
  pub runs : Runs IsLive old.ledger (entry ∷ []) more new.ledger
