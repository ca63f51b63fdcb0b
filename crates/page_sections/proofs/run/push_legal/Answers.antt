-- What is said, the chart, and the report, one after another.
use Rattle.std.proofs.Common.{◌≡◌, ◌++◌}
use Rattle.std.proofs.lemmas.Result.{on_ok_weaker}
use Rattle.html.specs.Fragment.{as_html}
use Rattle.page_sections.specs.RunVerdict.{finding_of}
use Rattle.page_sections.specs.RunSection.{chart_part}
use Rattle.page_sections.specs.RunWords.{legal_words, report_part}
use Rattle.page_sections.proofs.GroupLemmas.{then_written}
use Rattle.page_sections.proofs.run.push_legal.Goals as goal

pub returns : goal.returns
returns c =
    let old = c.args.text.now in
    let x = c.args.a.now in
    let words = legal_words x c.args.found in
    let picture = chart_part x c.args.run.now (finding_of c.args.found) in
    let one : c.push_legal_words.new.text ≡ old ++ as_html words = rw c.expanded.ensures.same at c.in_ok-push_legal_words.ensures in
    let drawn : c.push_chart_part.new.text ≡ c.push_legal_words.new.text ++ as_html picture = rw c.finding_of.ensures at c.in_ok-push_chart_part.ensures in
    let two = then_written old c.push_legal_words.new.text c.push_chart_part.new.text words picture one drawn in
    on_ok_weaker c.push_report.result (then_written old c.push_chart_part.new.text c.push_report.new.text (words ++ picture) (report_part c.args.report.now) two) c.push_report.ensures
