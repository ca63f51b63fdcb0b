-- The first clauses stay, and one of the others goes each time.
use Rattle.std.proofs.Common.{◌≡◌, ◌≤◌, length, take}
use Rattle.question_formula.proofs.own_clauses.cut.Given as goal

-- the first clauses are as they were
abbrev pub invariant-loop-clauses : goal.invariant-loop-clauses
invariant-loop-clauses l = record { there : l.first ≤ length l.clauses; same : take l.first l.clauses ≡ take l.first l.initial.clauses }

-- fewer clauses are left
abbrev pub decreases-loop-clauses : goal.decreases-loop-clauses
decreases-loop-clauses l = length l.clauses
