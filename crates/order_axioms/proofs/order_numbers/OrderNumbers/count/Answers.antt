-- The last start counts all clauses.
use Rattle.std.proofs.Common.{sym, ◌∙◌}
use Rattle.order_axioms.proofs.StartLemmas.{order_length}
use Rattle.order_axioms.proofs.order_numbers.OrderNumbers.count.Goals as goal

pub returns : goal.returns
returns c = c.cycle_start.ensures ∙ sym (order_length c.args.self.now.order)
