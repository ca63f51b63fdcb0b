-- Why a text is not read, and why there is no verdict on it.
use Rattle.std.specs.Prelude.{ℕ, ◌+◌, ◌^◌, ◌≤◌, List, length, ⊤}
use Rattle.clause_core.specs.declared.literal.Lit.{Lit}
use Rattle.dimacs.specs.declared.refusal.Refusal.{Refusal}
use Rattle.dimacs.specs.declared.refusal.Refusal.TheVariants.{Line, TooMany, NoMemory}
use Rattle.dimacs.specs.Dimacs.{IsDimacs, IsNoFormula, text_lines}
use Rattle.dimacs.specs.RefusedLine.{StopsAt}

-- why a text is not read, unless memory ran out: it is no formula, and reading stops at this line
abbrev pub IsUnreadable : List ℕ → Refusal → Type 0
IsUnreadable text (Line line) = IsNoFormula text × StopsAt (text_lines text) line
IsUnreadable text TooMany = ⊥
IsUnreadable text NoMemory = ⊤

-- the text is a formula, whose clauses and the budget are 2^32 or more
pub record HasTooMany (text : List ℕ) (budget : ℕ) : Type 0 where
  pub vars : ℕ
  pub written : List (List Lit)
  pub read : IsDimacs text vars written
  pub many : 2 ^ 32 ≤ length written + budget

-- why there is no verdict, unless memory ran out
abbrev pub IsCauseOf : List ℕ → ℕ → Refusal → Type 0
IsCauseOf text budget (Line line) = IsNoFormula text × StopsAt (text_lines text) line
IsCauseOf text budget TooMany = HasTooMany text budget
IsCauseOf text budget NoMemory = ⊤
