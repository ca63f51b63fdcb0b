-- Laws of the formula that a text is.
use Rattle.std.specs.Prelude.{ℕ, ◌≤◌, ◌↔◌, Bool, List, length}
use Rattle.clause_core.specs.declared.formula.Formula.{Formula}
use Rattle.clause_core.specs.Clause.{SatisfiesAll}
use Rattle.dimacs.specs.Dimacs.{clause_limit}
use Rattle.dimacs.specs.Verdict.{IsFormulaOf}

-- a formula of a text has no more clauses than a header may say
abbrev pub HasFewClauses : Type 0
HasFewClauses =
    (text : List ℕ) (f : Formula) → IsFormulaOf text f → length f.clauses ≤ clause_limit

-- what satisfies its clauses satisfies those that are written, and the other way round
abbrev pub SatisfiedAsWritten : Type 0
SatisfiedAsWritten =
    (text : List ℕ) (f : Formula) (read : IsFormulaOf text f) (valuation : ℕ → Bool) →
    SatisfiesAll valuation f.clauses ↔ SatisfiesAll valuation read.written
