-- The literals that were passed are marked.
use Rattle.std.proofs.Common.{take}
use Rattle.log_checker.specs.inner.Marks.{AddsMarks}
use Rattle.log_checker.proofs.mark_table.MarkTable.insert_all.Given as goal

abbrev pub invariant-loop-lit : goal.invariant-loop-lit
invariant-loop-lit l = AddsMarks l.fn.self (take l.lit-index l.clause) l.self
