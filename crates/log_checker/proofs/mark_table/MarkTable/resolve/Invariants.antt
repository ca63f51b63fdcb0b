-- The literals that were passed are marked, but the pivot's negation.
use Rattle.std.proofs.Common.{take}
use Rattle.log_checker.specs.inner.Marks.{ResolvesMarks}
use Rattle.log_checker.proofs.mark_table.MarkTable.resolve.Given as goal

abbrev pub invariant-loop-lit : goal.invariant-loop-lit
invariant-loop-lit l = ResolvesMarks l.fn.self l.fn.pivot (take l.lit-index l.clause) l.self
