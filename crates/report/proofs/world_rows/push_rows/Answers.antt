-- The row of one workload number more.
use Rattle.std.proofs.Common.{List, arith, subst}
use Rattle.std.proofs.lemmas.List.{take_all}
use Rattle.bspl_types.specs.declared.value.Value.{Value}
use Rattle.report.specs.WorldRows.{AppendsRows}
use Rattle.report.proofs.RowLemmas.{rows_none, rows_push}
use Rattle.report.proofs.world_rows.push_rows.Goals as goal

pub loop-index-init : goal.loop-index-init
loop-index-init g c = λ run is. rows_none (g.W.RowWriter.form c.args.writer.now) c.args.x.now run c.args.text.now

pub loop-index-preserved : goal.loop-index-preserved
loop-index-preserved g c = λ run is.
    rows_push (g.W.RowWriter.form c.args.writer.now) c.args.x.now run c.args.script.now.keys c.loop-index.index c.key.result c.in_ok-cells.cells c.args.text.now c.loop-index.text c.push_row.new.text
    c.key.ensures (c.loop-index.invariant run is) (c.in_ok-cells.ensures run is) (rw c.as_slice.ensures at c.in_ok-push_row.ensures)

pub returns : goal.returns
returns g c = λ run is.
    let keys = c.args.script.now.keys in
    subst (λ (done : List (List Value)). AppendsRows (g.W.RowWriter.form c.args.writer.now) c.args.x.now run done c.args.text.now c.loop-index.text)
    (take_all c.loop-index.index keys (omega arith)) (c.loop-index.invariant run is)
