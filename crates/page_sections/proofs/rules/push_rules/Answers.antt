-- No rules have no section.
use Rattle.std.proofs.Common.{sym, ◌∙◌}
use Rattle.std.proofs.lemmas.Bool.{eqb-true}
use Rattle.page_sections.proofs.RuleLemmas.{no_section}
use Rattle.page_sections.proofs.rules.push_rules.Goals as goal

pub returns-then-is_empty : goal.returns-then-is_empty
returns-then-is_empty c =
    let none = eqb-true _ _ (sym c.is_empty.ensures ∙ c.if-is_empty.true) in
    no_section c.args.a.now c.args.conflicts c.args.asked.now.rules c.args.text.now (rw c.as_slice-rules.ensures at none)
