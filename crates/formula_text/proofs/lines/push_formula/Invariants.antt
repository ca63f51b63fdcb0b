-- What has been written of the clauses.
use Rattle.std.proofs.Common.{◌≡◌, ◌++◌, take}
use Rattle.std.specs.List.{flat_map}
use Rattle.formula_text.specs.FormulaText.{clause_line}
use Rattle.formula_text.proofs.lines.push_formula.Given as goal

-- the clauses before this one
abbrev pub invariant-loop-clause : goal.invariant-loop-clause
invariant-loop-clause l = l.text ≡ l.initial.text ++ flat_map clause_line (take l.clause-index l.formula.clauses)
