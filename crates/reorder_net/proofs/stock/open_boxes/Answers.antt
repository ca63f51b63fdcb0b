-- One mailbox more has its pass.
use Rattle.reorder_net.proofs.ItemLemmas.{one_longer}
use Rattle.reorder_net.proofs.StockLemmas.{stocks_more}
use Rattle.reorder_net.proofs.stock.open_boxes.Goals as goal

pub loop-home-preserved : goal.loop-home-preserved
loop-home-preserved g c =
    let old = c.loop-home.invariant in
    let mailbox = c.in_ok-mailbox.mailbox in
    let whole = c.in_ok-mailbox.whole in
    let boxes = c.in_ok-push.ensures.ok in
    record {
      count = one_longer c.loop-home.boxes c.push.new.self mailbox c.loop-home.home boxes old.count;
      stocks = stocks_more c.loop-home.boxes c.push.new.self c.loop-home.wholes c.push-in-loop-home.new.self mailbox whole c.loop-home.home boxes c.in_ok-push-2.ensures.ok old.count c.in_ok-mailbox.ensures.pass c.in_ok-mailbox.ensures.view old.stocks;
    }
