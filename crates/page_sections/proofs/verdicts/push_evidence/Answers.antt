-- The chart, and then the text of the run.
use Rattle.std.proofs.Common.{◌∷◌, []}
use Rattle.std.proofs.lemmas.Result.{on_ok_weaker}
use Rattle.html.specs.Fragment.{Words, fitted}
use Rattle.run_chart.specs.Chart.{chart}
use Rattle.run_text.specs.RunText.{run_text}
use Rattle.page_sections.specs.declared.wording.TheConstants.{RUN_TEXT}
use Rattle.page_sections.proofs.GroupLemmas.{then_written}
use Rattle.page_sections.proofs.verdicts.push_evidence.Goals as goal

pub returns : goal.returns
returns c =
    let x = c.args.a.now in
    let run = c.args.run.now in
    on_ok_weaker c.fill.result
    (then_written c.args.text.now c.push_chart.new.text c.fill.new.text (chart x run c.args.finding) (fitted RUN_TEXT.now (Words (run_text x run) ∷ [])) c.in_ok-push_chart.ensures)
    (rw (c.as_slice.ensures, c.in_ok-lines.ensures.text) at c.fill.ensures)
