-- What is said, the chart up to the bad event, and the report, one after another.
use Rattle.std.proofs.Common.{◌≡◌, ◌++◌, take, subst}
use Rattle.std.proofs.lemmas.Result.{on_ok_weaker}
use Rattle.bspl_types.specs.declared.expanded.Expanded.{Expanded}
use Rattle.enactment_model.specs.declared.bad_event.BadEvent.{BadEvent}
use Rattle.html.specs.Fragment.{as_html}
use Rattle.run_chart.specs.declared.finding.Finding.TheVariants.{Bad}
use Rattle.page_sections.specs.RunSection.{chart_part}
use Rattle.page_sections.specs.RunWords.{illegal_words, report_part}
use Rattle.page_sections.proofs.GroupLemmas.{then_written}
use Rattle.page_sections.proofs.run.push_illegal.Goals as goal

pub returns : goal.returns
returns c =
    let old = c.args.text.now in
    let x = c.args.a.now in
    let bad : BadEvent = record { place = c.args.place; why = c.args.why } in
    let words = illegal_words x bad in
    let picture = chart_part x (take bad.place c.args.run.now) (Bad bad.place) in
    let one = subst (λ (y : Expanded). c.push_illegal_words.new.text ≡ old ++ as_html (illegal_words y bad)) c.expanded.ensures.same c.in_ok-push_illegal_words.ensures in
    let two = then_written old c.push_illegal_words.new.text c.push_chart_part.new.text words picture one c.in_ok-push_chart_part.ensures in
    on_ok_weaker c.push_report.result (then_written old c.push_chart_part.new.text c.push_report.new.text (words ++ picture) (report_part c.args.report.now) two) c.push_report.ensures
