-- The other messages so far.
use Rattle.std.proofs.Common.{◌≡◌}
use Rattle.script_text.proofs.OrderLemmas.{others_to}
use Rattle.script_text.proofs.orders.other_messages.Given as goal

abbrev pub invariant-loop-index : goal.invariant-loop-index
invariant-loop-index l = l.others ≡ others_to l.x l.role l.first l.index
