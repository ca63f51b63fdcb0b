-- The order of the next role comes next.
use Rattle.std.proofs.Common.{arith, ◌∙◌}
use Rattle.std.proofs.lemmas.List.{take_all}
use Rattle.agent_scripts.specs.StatedScript.{orders_given}
use Rattle.agent_scripts.specs.ScriptText.{statements_of}
use Rattle.script_text.proofs.OrderLemmas.{length-orders_given, orders_more}
use Rattle.script_text.proofs.orders.orders_of.Goals as goal

pub loop-role-preserved : goal.loop-role-preserved
loop-role-preserved c =
    let statements = statements_of c.args.stated.now in
    let more = orders_more c.args.x.now statements c.loop-role.role (omega (arith, c.len-role-end.ensures, c.loop-role-test.true)) in
    cc (c.in_ok-push.ensures.ok, c.in_ok-order_of.ensures)

pub returns : goal.returns
returns c =
    let x = c.args.x.now in
    let statements = statements_of c.args.stated.now in
    c.loop-role.invariant
    ∙ take_all c.loop-role.role (orders_given x statements) (omega (arith, length-orders_given x statements, c.len-role-end.ensures, c.loop-role-test.false))
