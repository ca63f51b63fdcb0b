-- One parameter more.
use Rattle.std.proofs.Common.{◌++◌, List, ℕ, ap, take, ◌∙◌}
use Rattle.html.specs.Fragment.{as_html}
use Rattle.run_chart.proofs.IndexLemmas.{enumerate_more}
use Rattle.run_chart.specs.EventTable.{known_item}
use Rattle.run_chart.specs.Knowledge.{value_before}
use Rattle.run_chart.proofs.cells.push_known_params.Goals as goal

pub loop-param-preserved : goal.loop-param-preserved
loop-param-preserved c =
    let s = c.args.s.now in
    let i = c.loop-param.param in
    let item = λ (p : ℕ). known_item s.x.now p (value_before s.x.now (take s.index s.run.now) s.event.now p) in
    (rw c.value_before-value.ensures at c.in_ok-push_known_item.ensures)
    ∙ ap (λ (ys : List ℕ). ys ++ as_html (item i)) c.loop-param.invariant
    ∙ enumerate_more (λ (p, info). item p) c.args.text.now c.args.params.now i c.index-params-param.result c.loop-param-test.true
