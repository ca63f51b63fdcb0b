-- The messages that the statements so far order.
use Rattle.std.proofs.Common.{◌≡◌, take}
use Rattle.std.specs.List.{flat_map}
use Rattle.agent_scripts.specs.StatedScript.{order_in}
use Rattle.agent_scripts.specs.ScriptText.{statements_of}
use Rattle.script_text.proofs.orders.ordered_messages.Given as goal

abbrev pub invariant-loop-s : goal.invariant-loop-s
invariant-loop-s l = l.order ≡ flat_map (order_in l.role) (statements_of (take l.s-index l.stated))
