-- The size, the title, the description and the style, one after another.
use Rattle.std.proofs.Common.{◌≡◌, [], ◌++◌, length, List, ℕ, OnOk, subst, ◌∙◌}
use Rattle.html.specs.Fragment.{fitted}
use Rattle.run_chart.proofs.WritingLemmas.{then_written}
use Rattle.run_chart.specs.declared.wording.TheConstants as wording
use Rattle.run_chart.specs.Frame.{chart_description, chart_start, chart_title}
use Rattle.run_chart.specs.Place.{chart_height, chart_width}
use Rattle.run_chart.proofs.chart.push_head.Goals as goal

pub returns : goal.returns
returns c =
    let old = c.args.text.now in
    let s = c.args.s.now in
    let x = s.x.now in
    let start = chart_start (chart_width (length x.roles)) (chart_height (length s.run.now)) in
    let title = chart_title x s.finding in
    let one = rw (c.chart_width-width.ensures, c.chart_height-height.ensures) at c.in_ok-fill.ensures in
    let two = c.in_ok-push_title.ensures ∙ then_written old _ start title one in
    let three = c.in_ok-push_description.ensures ∙ then_written old _ (start ++ title) (chart_description x) two in
    subst (λ (text : List ℕ). OnOk c.fill-2.result (c.fill-2.new.text ≡ text)) (then_written old _ ((start ++ title) ++ chart_description x) (fitted wording.STYLE.now []) three) c.fill-2.ensures
