-- The proof of a log.
use Rattle.std.specs.Prelude.{◌≡◌, ℕ, ◌+◌, ◌⊎◌, List, [], ◌∷◌, length}
use Rattle.std.specs.List.{flat_map}
use Rattle.clause_core.specs.declared.literal.Lit.{Lit}
use Rattle.clause_core.specs.declared.formula.Formula.{Formula}
use Rattle.refutation_log.specs.declared.refutation.Entry.{Entry}
use Rattle.refutation_log.specs.declared.refutation.Entry.TheVariants.{Step, Drop}
use Rattle.refutation_log.specs.declared.refutation.Log.{Log}
use Rattle.refutation_log.specs.Entries.{entries}
use Rattle.refutation_log.specs.Resolution.{Accepts, LogResolves}
use Rattle.lrat_text.specs.Lrat.{ProofLine, Add, Delete, IsRefutation}
use Rattle.lrat_text.specs.Text.{line_text}

-- after `last` clauses: a line for each step, with its clause and hints, and one for each removal
abbrev pub entry_lines : ℕ → List Entry → List (List Lit) → List (List ℕ) → List ProofLine
entry_lines last (Step chain ∷ more) (clause ∷ derived) (hints ∷ others) =
    Add (last + 1) clause hints ∷ entry_lines (last + 1) more derived others
entry_lines last (Drop numbers ∷ more) derived hints =
    Delete last numbers ∷ entry_lines last more derived hints
entry_lines last log derived hints = []

-- the lines are those of the log's entries
pub record FollowLog (f : Formula) (log : Log) (lines : List ProofLine) : Type 0 where
  pub derived : List (List Lit)
  pub resolves : LogResolves f log derived
  pub hints : List (List ℕ)
  pub many : length hints ≡ length derived
  pub lines_are : lines ≡ entry_lines (length f.clauses) (entries log) derived hints

-- there is one line, with one hint
abbrev pub IsOneLine : Formula → List ProofLine → Type 0
IsOneLine f lines =
    (number : ℕ) × (lines ≡ Add (length f.clauses + 1) [] (number ∷ []) ∷ [])

-- the log is accepted, and the text is that of a proof which refutes the formula: it has a line for
-- each entry of the log, or one line, where a clause of the formula is empty
pub record IsProofOf (f : Formula) (log : Log) (text : List ℕ) : Type 0 where
  pub accepted : Accepts f log
  pub lines : List ProofLine
  pub text_is : text ≡ flat_map line_text lines
  pub refutes : IsRefutation f.clauses lines
  pub of_log : FollowLog f log lines ⊎ IsOneLine f lines
