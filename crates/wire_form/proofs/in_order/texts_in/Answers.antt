-- One item more is read as its text.
use Rattle.std.proofs.Common.{subst}
use Rattle.std.specs.List.{AllZip}
use Rattle.std.proofs.lemmas.List.{take_all}
use Rattle.json.specs.Value.{value_view}
use Rattle.list_base.proofs.Zipped.{paired_more}
use Rattle.wire_form.proofs.InOrderLemmas.{ReadsText, texts_read}
use Rattle.wire_form.proofs.in_order.texts_in.Goals as goal

pub loop-item-preserved : goal.loop-item-preserved
loop-item-preserved c =
    paired_more ReadsText c.in_ok-items.items.now c.loop-item.texts.items _ c.loop-item.item-index c.item-item.result c.in_ok-text.text c.loop-item-test.true c.item-item.is c.loop-item.invariant c.in_ok-text.ensures c.in-Ok.ensures.items

pub returns : goal.returns
returns c =
    let items = c.in_ok-items.items.now in
    texts_read (value_view c.args.value.now) items c.loop-item.texts.items c.in_ok-items.ensures
    (subst (λ vs. AllZip ReadsText vs c.loop-item.texts.items) (take_all c.loop-item.item-index items c.loop-item-test.false) c.loop-item.invariant)
