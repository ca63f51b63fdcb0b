-- What is kept while lines are read.
use Rattle.std.proofs.Common.{length}
use Rattle.std.specs.Option.{option_copied}
use Rattle.dimacs.specs.inner.Reading.{AreRead, lines_in}
use Rattle.dimacs.proofs.lines.body_of.Given as goal

-- the words of the lines that were passed were taken, and the lines were counted
abbrev pub invariant-loop-left : goal.invariant-loop-left
invariant-loop-left l = AreRead l.vars l.reading.clauses l.reading.pending.items (lines_in (option_copied l.fn.lines)) (lines_in (option_copied l.left)) l.header_line l.line

-- the lines that are left
abbrev pub decreases-loop-left : goal.decreases-loop-left
decreases-loop-left l = length (lines_in (option_copied l.left))
