-- The field of one parameter more.
use Rattle.std.proofs.Common.{◌++◌, ◌∷◌, List, ℕ, Option, ap, take, arith, ◌∙◌}
use Rattle.std.specs.List.{enumerate_from, flat_map}
use Rattle.bspl_types.specs.declared.value.Value.{Value}
use Rattle.report.specs.WorldText.{cell_field}
use Rattle.report.proofs.RowLemmas.{enumerate_all, enumerate_more}
use Rattle.report.proofs.row_lines.push_cells.Goals as goal

pub loop-param-preserved : goal.loop-param-preserved
loop-param-preserved c =
    let field : ℕ × Option Value → List ℕ = λ cell. 32 ∷ cell_field c.args.x.now cell in
    let cells = c.args.cells.now in
    let i = c.loop-param.param in
    let cell = c.index-cells-param.result in
    c.in_ok-push_cell.ensures
    ∙ ap (λ (ys : List ℕ). ys ++ field (i, cell)) c.loop-param.invariant
    ∙ ap (λ (shown : Option Value). (c.args.text.now ++ flat_map field (take i (enumerate_from 0 cells))) ++ field (i, shown)) c.index-cells-param.is
    ∙ enumerate_more field c.args.text.now cells i cell c.loop-param-test.true

pub returns : goal.returns
returns c =
    let field : ℕ × Option Value → List ℕ = λ cell. 32 ∷ cell_field c.args.x.now cell in
    c.loop-param.invariant ∙ enumerate_all field c.args.text.now c.args.cells.now c.loop-param.param (omega (arith, c.loop-param-test.false))
