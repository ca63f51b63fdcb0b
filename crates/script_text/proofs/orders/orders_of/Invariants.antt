-- The orders of the roles so far.
use Rattle.std.proofs.Common.{◌≡◌, take}
use Rattle.agent_scripts.specs.StatedScript.{orders_given}
use Rattle.agent_scripts.specs.ScriptText.{statements_of}
use Rattle.script_text.proofs.orders.orders_of.Given as goal

abbrev pub invariant-loop-role : goal.invariant-loop-role
invariant-loop-role l = l.orders ≡ take l.role (orders_given l.x (statements_of l.stated))
