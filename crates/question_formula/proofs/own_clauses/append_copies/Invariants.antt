-- The others so far follow what was there.
use Rattle.std.proofs.Common.{◌≡◌, ◌++◌, take}
use Rattle.question_formula.proofs.own_clauses.append_copies.Given as goal

-- what was there, and the others up to this one
abbrev pub invariant-loop-clause : goal.invariant-loop-clause
invariant-loop-clause l = l.clauses ≡ l.initial.clauses ++ take l.clause-index l.others
