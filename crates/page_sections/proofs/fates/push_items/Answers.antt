-- The item of one message more.
use Rattle.std.proofs.Common.{◌++◌, List, ℕ, ap, get_or, ◌∙◌}
use Rattle.html.specs.Fragment.{as_html}
use Rattle.page_sections.proofs.IndexLemmas.{enumerate_more}
use Rattle.message_fates.specs.declared.fate.Fate.TheVariants.{Sent}
use Rattle.page_sections.specs.Fates.{fate_item}
use Rattle.page_sections.proofs.fates.push_items.Goals as goal

pub loop-message-preserved : goal.loop-message-preserved
loop-message-preserved c =
    let item = fate_item c.args.x.now in
    let fates = c.args.fates.now in
    let i = c.loop-message.message in
    c.in_ok-push_item.ensures
    ∙ ap (λ (ys : List ℕ). ys ++ as_html (item (i, get_or fates i Sent))) c.loop-message.invariant
    ∙ enumerate_more item c.args.text.now fates i Sent c.loop-message-test.true
