-- The first mailboxes have dealt their list to the role.
use Rattle.std.proofs.Common.{◌+◌}
use Rattle.reorder_net.specs.inner.Stock.{low_at, AreStocks}
use Rattle.reorder_net.proofs.StockLemmas.{AreFirstFresh}
use Rattle.reorder_net.proofs.stock.deal_puts.Given as goal

abbrev pub invariant-loop-q : goal.invariant-loop-q
invariant-loop-q g l = record {
  stocks : AreStocks l.boxes (l.role + 1) (low_at l.role l.q) l.wholes;
  fresh : AreFirstFresh l.boxes l.role l.q l.puts;
}
