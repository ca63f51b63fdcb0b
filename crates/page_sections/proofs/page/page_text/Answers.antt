-- The verdicts, the section that is given, and the tables.
use Rattle.std.proofs.Common.{◌≡◌, [], ◌++◌, List, ℕ, ap, subst, ◌∙◌}
use Rattle.bspl_types.specs.declared.expanded.Expanded.{Expanded}
use Rattle.html.specs.Fragment.{as_html}
use Rattle.page_sections.specs.Page.{page_tables, page_verdicts}
use Rattle.page_sections.proofs.GroupLemmas.{then_written}
use Rattle.page_sections.proofs.page.page_text.Goals as goal

pub returns : goal.returns
returns c =
    λ shown is.
    let x = c.args.a.now in
    let fates = c.args.fates.now in
    let verdicts = page_verdicts x c.args.v.now in
    let one : c.push_verdicts.new.text ≡ as_html verdicts = c.in_ok-push_verdicts.ensures ∙ ap (λ (ys : List ℕ). ys ++ as_html verdicts) c.new-text.ensures in
    let given : c.append.new.self ≡ c.push_verdicts.new.text ++ as_html shown = c.in_ok-append.ensures.ok ∙ ap (λ (ys : List ℕ). c.push_verdicts.new.text ++ ys) is in
    let two = then_written [] c.push_verdicts.new.text c.append.new.self verdicts shown one given in
    let tables : c.push_tables.new.text ≡ c.append.new.self ++ as_html (page_tables x fates) = subst (λ (y : Expanded). c.push_tables.new.text ≡ c.append.new.self ++ as_html (page_tables y fates)) c.expanded.ensures.same c.in_ok-push_tables.ensures in
    then_written [] c.append.new.self c.push_tables.new.text (verdicts ++ shown) (page_tables x fates) two tables
