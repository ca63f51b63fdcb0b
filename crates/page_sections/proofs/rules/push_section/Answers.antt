-- The heading, and each of the rules.
use Rattle.std.proofs.lemmas.Result.{on_ok_weaker}
use Rattle.page_sections.proofs.RuleLemmas.{some_section}
use Rattle.page_sections.proofs.rules.push_section.Goals as goal

pub returns : goal.returns
returns c =
    on_ok_weaker c.push_judged.result (some_section c.args.a.now c.args.conflicts c.args.rules.now c.args.text.now c.push_fragments.new.text c.push_judged.new.text c.requires.rules c.in_ok-push_fragments.ensures) c.push_judged.ensures
