-- The next mailbox deals its list; in the end all have.
use Rattle.std.proofs.Common.{◌+◌, arith}
use Rattle.reorder_net.specs.inner.Stock.{low_at}
use Rattle.reorder_net.proofs.StockLemmas.{all_dealt, all_fresh, fresh_dealt, fresh_more, stocks_dealt, stocks_same}
use Rattle.reorder_net.proofs.stock.deal_puts.Goals as goal

pub loop-q-preserved : goal.loop-q-preserved
loop-q-preserved g c =
    let boxes = c.args.boxes.now in
    let stocks = c.loop-q.invariant.stocks in
    let new = fresh_dealt boxes c.args.role c.loop-q.q c.loop-q.wholes c.at.result.now c.at_mut.result.now c.part.result c.requires.role stocks c.at.ensures c.at_mut.ensures.item c.part.ensures.boxes.1 c.part.ensures.right in
    record {
      stocks = stocks_dealt boxes c.args.role c.loop-q.q c.loop-q.wholes c.at.result.now c.at_mut.result.now c.part.new.pass stocks c.at.ensures c.at_mut.ensures.item c.part.ensures.boxes.0 c.part.ensures.left;
      fresh = fresh_more boxes c.args.role c.loop-q.q c.loop-q.puts c.push.new.self c.at.result.now c.part.result c.in_ok-push.ensures.ok c.loop-q.invariant.fresh c.at.ensures new;
    }

pub returns-clause-stocks : goal.returns-clause-stocks
returns-clause-stocks g c =
    stocks_same c.args.boxes.now (c.args.role + 1) (low_at c.args.role c.loop-q.q) (λ _. c.args.role + 1) c.loop-q.wholes (λ q within. all_dealt c.args.role c.loop-q.q q (omega (arith, within))) c.loop-q.invariant.stocks

pub returns-clause-fresh : goal.returns-clause-fresh
returns-clause-fresh g c = all_fresh c.args.boxes.now c.args.role c.loop-q.q c.loop-q.puts (omega arith) c.loop-q.invariant.fresh
