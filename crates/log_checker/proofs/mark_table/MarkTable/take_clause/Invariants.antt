-- What was marked is marked, or was taken out.
use Rattle.std.proofs.Common.{length}
use Rattle.log_checker.proofs.TakingLemmas.{IsTaking}
use Rattle.log_checker.proofs.mark_table.MarkTable.take_clause.Given as goal

abbrev pub invariant-loop-lit : goal.invariant-loop-lit
invariant-loop-lit l =
    IsTaking l.fn.self (record { vars = l.self-inside.vars; cells = l.self-inside.cells.items }) l.self-inside.touched.items l.lits.items

abbrev pub decreases-loop-lit : goal.decreases-loop-lit
decreases-loop-lit l = length l.self-inside.touched.items
