-- The cell of one parameter more.
use Rattle.std.proofs.Common.{◌≡◌, ℕ, List, Option, length, subst, sym, arith}
use Rattle.bspl_types.specs.declared.value.Value.{Value}
use Rattle.report.specs.WorldText.{AreFirstCells}
use Rattle.report.proofs.RowLemmas.{cells_none, cells_push}
use Rattle.report.proofs.world_rows.row_cells.Goals as goal

pub loop-param-init : goal.loop-param-init
loop-param-init c = λ run is.
    subst (λ (cells : List (Option Value)). AreFirstCells c.args.x.now run c.args.key.now 0 cells) (sym c.in_ok-cells.ensures) (cells_none c.args.x.now run c.args.key.now)

pub loop-param-preserved : goal.loop-param-preserved
loop-param-preserved c = λ run is.
    cells_push c.args.x.now run c.args.key.now c.loop-param.param c.loop-param.cells c.push.new.self c.table.result
    (c.loop-param.invariant run is) (c.table.ensures c.args.x.now run is.are_desks is.local is.histories) c.in_ok-push.ensures.ok

pub returns : goal.returns
returns c = λ run is.
    let all : c.loop-param.param ≡ length c.args.x.now.params = omega arith in
    subst (λ (params : ℕ). AreFirstCells c.args.x.now run c.args.key.now params c.loop-param.cells) all (c.loop-param.invariant run is)
