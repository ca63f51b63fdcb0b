-- The beginning, and a section for each verdict.
use Rattle.std.proofs.Common.{◌≡◌, ◌++◌}
use Rattle.std.proofs.lemmas.Result.{on_ok_weaker}
use Rattle.html.specs.Fragment.{as_html}
use Rattle.page_sections.specs.Page.{page_head}
use Rattle.page_sections.specs.VerdictSections.{liveness_section, safety_section}
use Rattle.page_sections.proofs.GroupLemmas.{then_written}
use Rattle.page_sections.proofs.page.push_verdicts.Goals as goal

pub returns : goal.returns
returns c =
    let old = c.args.text.now in
    let x = c.args.a.now in
    let v = c.args.v.now in
    let head = page_head x v in
    let safety = safety_section x v.safety in
    let one : c.push_head.new.text ≡ old ++ as_html head = rw c.expanded.ensures.same at c.in_ok-push_head.ensures in
    let two = then_written old c.push_head.new.text c.push_safety.new.text head safety one c.in_ok-push_safety.ensures in
    on_ok_weaker c.push_liveness.result (then_written old c.push_safety.new.text c.push_liveness.new.text (head ++ safety) (liveness_section x v.liveness) two) c.push_liveness.ensures
