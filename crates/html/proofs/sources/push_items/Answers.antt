-- The name of one message more.
use Rattle.std.proofs.Common.{◌++◌, List, ℕ, Bool, ap, take, ◌∙◌}
use Rattle.std.specs.List.{enumerate_from, flat_map}
use Rattle.bspl_types.specs.declared.protocol.Message.{Message}
use Rattle.html.specs.Fragment.{as_html}
use Rattle.html.specs.Tables.{source_item, source_name}
use Rattle.html.proofs.IndexLemmas.{enumerate_more}
use Rattle.html.proofs.sources.push_items.Goals as goal

pub loop-index-preserved : goal.loop-index-preserved
loop-index-preserved c =
    let item = source_item c.args.dead.now c.args.param c.args.role in
    let xs = c.args.messages.now in
    let i = c.loop-index.index in
    let d = c.index-messages-index.result in
    let before = c.args.text.now ++ as_html (flat_map item (take i (enumerate_from 0 xs))) in
    c.in_ok-push_item.ensures
    ∙ ap (λ (ys : List ℕ). ys ++ as_html (source_name c.is_dead_at.result c.args.param c.args.role d)) c.loop-index.invariant
    ∙ ap (λ (dead : Bool). before ++ as_html (source_name dead c.args.param c.args.role d)) c.is_dead_at.ensures
    ∙ ap (λ (m : Message). before ++ as_html (item (i, m))) c.index-messages-index.is
    ∙ enumerate_more item c.args.text.now xs i d c.loop-index-test.true
