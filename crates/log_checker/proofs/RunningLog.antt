-- A log is run entry by entry.
use Rattle.std.proofs.Common.{◌≡◌, ℕ, ◌+◌, Some, List, [], ◌∷◌, ◌++◌, length, All, refl, sym, ap, ◌∙◌, arith}
use Rattle.std.proofs.lemmas.List.{append_assoc, append-nil, length-append}
use Rattle.std.proofs.lemmas.List.Elements.{All-push}
use Rattle.clause_core.specs.declared.literal.Lit.{Lit}
use Rattle.clause_core.specs.Clause.{VariablesExist}
use Rattle.refutation_log.specs.declared.refutation.Chain.{Chain}
use Rattle.refutation_log.specs.declared.refutation.Entry.{Entry}
use Rattle.refutation_log.specs.declared.refutation.Entry.TheVariants.{Step, Drop}
use Rattle.refutation_log.specs.Entries.{steps_of}
use Rattle.clause_core.specs.Numbering.{live}
use Rattle.refutation_log.specs.Ledger.{Ledger, all_live, without_all, AllRemoved, IsLive}
use Rattle.refutation_log.specs.Resolution.{Derives, Runs}
use Rattle.refutation_log.specs.ResolutionLaws.{RunsAppend}
use Rattle.log_checker.specs.declared.refusal.ChainError.{ChainError}
use Rattle.log_checker.specs.declared.refusal.ChainError.TheVariants.{NoClause, NoPivot, NoMemory}
use Rattle.log_checker.specs.declared.refusal.Reject.{Reject}
use Rattle.log_checker.specs.declared.refusal.Reject.TheVariants as rejects
use Rattle.log_checker.specs.FirstFailure.{LacksLive}
use Rattle.log_checker.specs.inner.Stops.{ChainStops, EntryStops, EntriesStop, rejection}
use Rattle.log_checker.specs.inner.Table.{TableState, EntryRuns}

-- the entries before those that are left led to the table
pub record HasRun (formula : List (List Lit)) (log left : List Entry) (table : TableState) : Type 0 where
  pub before : List Entry
  pub whole : log ≡ before ++ left
  pub kept : table.formula ≡ formula
  pub runs : Runs IsLive (all_live formula) before table.derived table.ledger

pub has_run_none : (formula : List (List Lit)) (log : List Entry) (table : TableState) → table.formula ≡ formula → table.derived ≡ [] → table.ledger ≡ all_live formula → HasRun formula log log table
has_run_none formula log table same none start = record { before = []; whole = refl; kept = same; runs = (none, start) }

pub has_run_more : RunsAppend IsLive → (formula : List (List Lit)) (log left : List Entry) (entry : Entry) (old new : TableState) → HasRun formula log (entry ∷ left) old → EntryRuns old entry new → HasRun formula log left new
has_run_more append formula log left entry old new run more = record {
  before = run.before ++ entry ∷ [];
  whole = run.whole ∙ sym (append_assoc run.before (entry ∷ []) left);
  kept = more.formula ∙ run.kept;
  runs = rw more.derived (append (all_live formula) old.ledger new.ledger run.before (entry ∷ []) old.derived more.more run.runs more.runs);
}

pub has_run_all : (formula : List (List Lit)) (log : List Entry) (table : TableState) → HasRun formula log [] table → Runs IsLive (all_live formula) log table.derived table.ledger
has_run_all formula log table run = rw (run.whole, append-nil) run.runs

-- the entry that comes next stops the log
pub log_stops : (formula : List (List Lit)) (log left : List Entry) (entry : Entry) (table : TableState) (reject : Reject) → HasRun formula log (entry ∷ left) table → EntryStops (length table.derived) table.ledger entry reject → EntriesStop formula log reject
log_stops formula log left entry table (rejects.NoClause step) run stops =
    record { before = run.before; entry = entry; after = left; entries = run.whole; derived = table.derived; ledger = table.ledger; runs = run.runs; fails = stops }
log_stops formula log left entry table (rejects.NoPivot step link) run stops =
    record { before = run.before; entry = entry; after = left; entries = run.whole; derived = table.derived; ledger = table.ledger; runs = run.runs; fails = stops }
log_stops formula log left entry table (rejects.NoDrop after item) run stops =
    record { before = run.before; entry = entry; after = left; entries = run.whole; derived = table.derived; ledger = table.ledger; runs = run.runs; fails = stops }
log_stops formula log left entry table rejects.NotEmpty run stops = stops
log_stops formula log left entry table rejects.NoMemory run stops = tt

-- ---- how many clauses were derived

count_more : (ledger next : Ledger) (entry : Entry) (more : List (List Lit)) → Runs IsLive ledger (entry ∷ []) more next → length more ≡ length (steps_of (entry ∷ []))
count_more ledger next (Step chain) [] runs = absurd runs
count_more ledger next (Step chain) (clause ∷ more) runs = ap (λ rest. length (clause ∷ rest)) runs.1.0
count_more ledger next (Drop numbers) more runs = ap length runs.1.0

pub steps_first : (entry : Entry) (left : List Entry) → length (steps_of (entry ∷ left)) ≡ length (steps_of (entry ∷ [])) + length (steps_of left)
steps_first (Step chain) left = omega arith
steps_first (Drop numbers) left = omega arith

pub counted_more : (entry : Entry) (left : List Entry) (old new : TableState) (steps : ℕ) → length old.derived + length (steps_of (entry ∷ left)) ≡ steps → EntryRuns old entry new → length new.derived + length (steps_of left) ≡ steps
counted_more entry left old new steps counted more =
    omega (arith, counted, steps_first entry left, count_more old.ledger new.ledger entry more.more more.runs, length-append old.derived more.more, ap length more.derived)

-- ---- one entry

pub step_runs : (old new : TableState) (chain : Chain) (clause : List Lit) → new.formula ≡ old.formula → new.derived ≡ old.derived ++ clause ∷ [] → new.ledger ≡ old.ledger ++ Some clause ∷ [] → Derives (live old.ledger) chain clause → EntryRuns old (Step chain) new
step_runs old new chain clause same derived ledger derives = record { formula = same; more = clause ∷ []; derived = derived; runs = (derives, (refl, ledger)) }

pub step_stops : (done : ℕ) (ledger : Ledger) (chain : Chain) (error : ChainError) → ChainStops (live ledger) chain error → EntryStops done ledger (Step chain) (rejection (done + 1) error)
step_stops done ledger chain NoClause stops = (refl, stops)
step_stops done ledger chain (NoPivot link) stops = (refl, stops)
step_stops done ledger chain NoMemory stops = tt

pub exist_more : (vars : ℕ) (formula derived : List (List Lit)) (clause : List Lit) → All (VariablesExist vars) (formula ++ derived) → VariablesExist vars clause → All (VariablesExist vars) (formula ++ (derived ++ clause ∷ []))
exist_more vars formula derived clause exist more = rw (← append_assoc) (All-push (VariablesExist vars) (formula ++ derived) clause exist more)

pub drop_runs : (old new : TableState) (numbers : List ℕ) → new.formula ≡ old.formula → new.derived ≡ old.derived → new.ledger ≡ without_all old.ledger numbers → AllRemoved IsLive old.ledger numbers → EntryRuns old (Drop numbers) new
drop_runs old new numbers same derived ledger removed = record { formula = same; more = []; derived = derived ∙ sym (append-nil old.derived); runs = (removed, (refl, ledger)) }

pub drop_stops : (done : ℕ) (ledger : Ledger) (numbers : List ℕ) (item : ℕ) → LacksLive ledger numbers item → EntryStops done ledger (Drop numbers) (rejects.NoDrop done item)
drop_stops done ledger numbers item lacks = (refl, lacks)

-- ---- before the first entry

-- what holds of the clauses of a formula holds of a table with nothing derived
pub exist_first : (vars : ℕ) (formula : List (List Lit)) (table : TableState) → All (VariablesExist vars) formula → table.formula ≡ formula → table.derived ≡ [] → All (VariablesExist vars) (table.formula ++ table.derived)
exist_first vars formula table exist same none = rw (same, none, append-nil) exist
