-- The lifelines, the strokes, the words and the foot, one after another.
use Rattle.std.proofs.Common.{◌≡◌, ◌++◌, length, List, ℕ, OnOk, subst, ◌∙◌}
use Rattle.std.specs.List.{enumerate_from, flat_map}
use Rattle.run_chart.proofs.WritingLemmas.{then_written}
use Rattle.run_chart.specs.Foot.{chart_foot}
use Rattle.run_chart.specs.Frame.{lifeline}
use Rattle.run_chart.specs.Drawing.{drawn}
use Rattle.run_chart.specs.Labels.{words_at}
use Rattle.run_chart.specs.Place.{rows_end}
use Rattle.run_chart.specs.Strokes.{strokes}
use Rattle.run_chart.proofs.chart.push_body.Goals as goal

pub returns-clause-body : goal.returns-clause-body
returns-clause-body c =
    let old = c.args.text.now in
    let s = c.args.s.now in
    let x = s.x.now in
    let run = s.run.now in
    let end = rows_end (length run) in
    let lines = flat_map (lifeline end) (enumerate_from 0 x.roles) in
    let drawing = flat_map drawn (strokes x run) in
    let labels = flat_map (words_at x run s.finding) (enumerate_from 0 run) in
    let foot = chart_foot x end s.finding in
    let one = rw (c.as_slice.ensures, c.rows_end.ensures) at c.in_ok-push_lifelines.ensures in
    let two = c.in_ok-push_strokes.ensures ∙ then_written old _ lines drawing one in
    let three = c.in_ok-push_events.ensures.words ∙ then_written old _ (lines ++ drawing) labels two in
    subst (λ (text : List ℕ). OnOk c.push_foot.result (c.push_foot.new.text ≡ text)) (then_written old _ ((lines ++ drawing) ++ labels) foot three) c.push_foot.ensures
