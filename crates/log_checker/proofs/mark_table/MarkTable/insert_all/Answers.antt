-- One more literal of the clause is marked.
use Rattle.log_checker.proofs.MarkLemmas.{AddsMarks-more, AddsMarks-none}
use Rattle.log_checker.proofs.mark_table.MarkTable.insert_all.Goals as goal

pub loop-lit-init : goal.loop-lit-init
loop-lit-init c = AddsMarks-none c.args.self.now

pub loop-lit-preserved : goal.loop-lit-preserved
loop-lit-preserved c =
    AddsMarks-more c.args.self.now c.loop-lit.self c.insert.new.self c.args.clause.now _ _ c.loop-lit-test.true c.loop-lit.invariant c.in_ok-insert.ensures
