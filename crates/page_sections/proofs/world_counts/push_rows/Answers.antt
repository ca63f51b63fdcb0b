-- The row of one message more.
use Rattle.std.proofs.Common.{◌++◌, List, ℕ, ap, take, sym, arith, ◌∙◌}
use Rattle.std.specs.List.{enumerate_from, flat_map}
use Rattle.std.proofs.lemmas.List.{append-nil}
use Rattle.bspl_types.specs.declared.protocol.Message.{Message}
use Rattle.html.specs.Fragment.{as_html}
use Rattle.page_sections.proofs.IndexLemmas.{enumerate_all, enumerate_more}
use Rattle.report.specs.declared.count.Count.{Count}
use Rattle.page_sections.specs.WorldSection.{count_item, count_row}
use Rattle.page_sections.proofs.world_counts.push_rows.Goals as goal

pub loop-number-init : goal.loop-number-init
loop-number-init c = λ run are. sym (append-nil c.args.text.now)

pub loop-number-preserved : goal.loop-number-preserved
loop-number-preserved c = λ run are.
    let item = count_item run in
    let messages = c.args.messages.now in
    let m = c.loop-number.number in
    let message = c.index-messages-number.result in
    c.in_ok-push_row.ensures
    ∙ ap (λ (count : Count). c.loop-number.text ++ as_html (count_row message count)) (are.each m (omega (arith, c.loop-number-test.true, c.requires.few)))
    ∙ ap (λ (ys : List ℕ). ys ++ as_html (item (m, message))) (c.loop-number.invariant run are)
    ∙ ap (λ (shown : Message). (c.args.text.now ++ as_html (flat_map item (take m (enumerate_from 0 messages)))) ++ as_html (item (m, shown))) c.index-messages-number.is
    ∙ enumerate_more item c.args.text.now messages m message c.loop-number-test.true

pub returns : goal.returns
returns c = λ run are. c.loop-number.invariant run are ∙ enumerate_all (count_item run) c.args.text.now c.args.messages.now c.loop-number.number (omega (arith, c.loop-number-test.false))
