-- The lines of a log's entries, and their text.
use Rattle.std.specs.Prelude.{◌≡◌, ℕ, List, ◌++◌, length}
use Rattle.std.specs.List.{flat_map}
use Rattle.clause_core.specs.declared.literal.Lit.{Lit}
use Rattle.clause_core.specs.declared.formula.Formula.{Formula}
use Rattle.refutation_log.specs.declared.refutation.Log.{Log}
use Rattle.refutation_log.specs.Entries.{entries}
use Rattle.refutation_log.specs.Ledger.{all_live}
use Rattle.clause_core.specs.Numbering.{Numbering}
use Rattle.lrat_text.specs.Lrat.{Add, HasHints, Verifies}
use Rattle.lrat_text.specs.Proof.{entry_lines}
use Rattle.lrat_text.specs.Text.{line_text}

-- the text is that of the log's lines, with hints that prove their clauses
pub record HasLines (f : Formula) (log : Log) (derived : List (List Lit)) (text : List ℕ)
    : Type 0 where
  pub hints : List (List ℕ)
  pub many : length hints ≡ length derived
  pub verifies : Verifies (all_live f.clauses)
      (entry_lines (length f.clauses) (entries log) derived hints)
  pub text_is :
      text ≡ flat_map line_text (entry_lines (length f.clauses) (entries log) derived hints)

-- the line of a clause that hints prove was written
pub record IsAdded
    (numbering : Numbering) (id : ℕ) (clause : List Lit) (old new : List ℕ) : Type 0 where
  pub hints : List ℕ
  pub proves : HasHints numbering clause hints
  pub text_is : new ≡ old ++ line_text (Add id clause hints)
