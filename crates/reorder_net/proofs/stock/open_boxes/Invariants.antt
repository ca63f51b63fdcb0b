-- The mailboxes that are open have a pass each, with all lists.
use Rattle.std.proofs.Common.{◌≡◌, length}
use Rattle.reorder_net.specs.inner.Stock.{AreStocks}
use Rattle.reorder_net.proofs.stock.open_boxes.Given as goal

abbrev pub invariant-loop-home : goal.invariant-loop-home
invariant-loop-home g l = record {
  count : length l.boxes ≡ l.home;
  stocks : AreStocks l.boxes 0 (λ _. 0) l.wholes;
}
