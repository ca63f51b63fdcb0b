-- What the loop over the rivals has appended.
use Rattle.std.specs.Prelude.{take}
use Rattle.clause_encoding.specs.inner.Selection.{selections}
use Rattle.clause_core.specs.Written.{AppendsClauses}
use Rattle.clause_encoding.proofs.selection.push_selections.Given as goal

-- the clauses of the rivals before the index
abbrev pub invariant-loop-n : goal.invariant-loop-n
invariant-loop-n l = AppendsClauses l.initial.clauses l.clauses (selections l.kinds (take l.n l.rivals))
