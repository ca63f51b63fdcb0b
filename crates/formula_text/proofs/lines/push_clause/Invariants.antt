-- What has been written of the clause.
use Rattle.std.proofs.Common.{◌≡◌, ◌++◌, take}
use Rattle.formula_text.proofs.Written.{spaced_lits}
use Rattle.formula_text.proofs.lines.push_clause.Given as goal

-- the literals before this one
abbrev pub invariant-loop-lit : goal.invariant-loop-lit
invariant-loop-lit l = l.text ≡ l.initial.text ++ spaced_lits (take l.lit-index l.lits)
