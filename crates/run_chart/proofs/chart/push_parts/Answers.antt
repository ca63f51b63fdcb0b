-- The head, the body, the legend and the table, one after another.
use Rattle.std.proofs.Common.{◌≡◌, [], ◌++◌, List, ℕ, OnOk, subst, ◌∙◌}
use Rattle.std.specs.List.{enumerate_from, flat_map}
use Rattle.html.specs.declared.wording.TheConstants.{TABLE_END}
use Rattle.html.specs.Fragment.{fitted}
use Rattle.run_chart.proofs.WritingLemmas.{then_written}
use Rattle.run_chart.specs.declared.wording.TheConstants as wording
use Rattle.run_chart.specs.Chart.{chart, chart_body}
use Rattle.run_chart.specs.EventTable.{event_row, event_table}
use Rattle.run_chart.specs.Frame.{chart_head}
use Rattle.run_chart.proofs.chart.push_parts.Goals as goal

pub returns : goal.returns
unfolding chart
returns c =
    let old = c.args.text.now in
    let s = c.args.s.now in
    let x = s.x.now in
    let run = s.run.now in
    let heads = fitted wording.EVENTS.now [] in
    let rows = flat_map (event_row x run s.finding) (enumerate_from 0 run) in
    let head = chart_head x run s.finding in
    let body = chart_body x run s.finding in
    let legend = fitted wording.LEGEND.now [] in
    let table = event_table x run s.finding in
    let begun = rw c.new-table.ensures at c.in_ok-fill.ensures in
    let filled_rows = c.in_ok-push_body.ensures.rows ∙ then_written [] _ heads rows begun in
    let closed = c.in_ok-fill-2.ensures ∙ then_written [] _ (heads ++ rows) (fitted TABLE_END.now []) filled_rows in
    let two = c.in_ok-push_body.ensures.body ∙ then_written old _ head body c.in_ok-push_head.ensures in
    let three = c.in_ok-fill-3.ensures ∙ then_written old _ (head ++ body) legend two in
    let four = (rw (c.as_slice.ensures, closed) at c.in_ok-append.ensures.ok) ∙ then_written old _ ((head ++ body) ++ legend) table three in
    subst (λ (text : List ℕ). OnOk c.fill-4.result (c.fill-4.new.text ≡ text)) (then_written old _ (((head ++ body) ++ legend) ++ table) (fitted wording.CHART_END.now []) four) c.fill-4.ensures
