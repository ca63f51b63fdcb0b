-- The row is written field by field.
use Rattle.std.proofs.Common.{◌≡◌, ◌∷◌, ◌++◌, codes, List, ℕ, ap, ◌∙◌}
use Rattle.std.specs.Fmt.{decimal}
use Rattle.std.proofs.lemmas.Result.{on_ok_weaker}
use Rattle.report.proofs.RowLemmas.{row_written}
use Rattle.report.proofs.row_lines.RowLinesRowWriter.push_row.Goals as goal

pub returns : goal.returns
returns c =
    let x = c.args.self.now.x.now in
    let number = c.args.number in
    let cells = c.args.cells.now in
    let start : c.push_count.new.text ≡ (c.args.text.now ++ codes "row") ++ 32 ∷ decimal number =
    c.in_ok-push_count.ensures ∙ ap (λ (ys : List ℕ). ys ++ 32 ∷ decimal number) c.in_ok-append.ensures.ok in
    on_ok_weaker c.push.result
    (λ ends. row_written x number cells c.args.text.now c.push_count.new.text c.push_cells.new.text c.push.new.self start c.in_ok-push_cells.ensures ends)
    c.push.ensures.ok
