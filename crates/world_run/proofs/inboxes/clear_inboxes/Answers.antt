-- One desk more is emptied.
use Rattle.std.proofs.Common.{arith}
use Rattle.world_run.proofs.UndeliveredLemmas.{cleared_all, cleared_length, cleared_more, cleared_start}
use Rattle.world_run.proofs.inboxes.clear_inboxes.Goals as goal

pub loop-role-init : goal.loop-role-init
loop-role-init c = cleared_start c.args.desks.now

pub at_mut-requires : goal.at_mut-requires
at_mut-requires c = omega (arith, c.loop-role-test.true, c.len-role-end.ensures, cleared_length c.args.desks.now c.loop-role.desks c.loop-role.role c.loop-role.invariant)

pub loop-role-preserved : goal.loop-role-preserved
loop-role-preserved c =
    cleared_more c.args.desks.now c.loop-role.desks c.loop-role.role c.at_mut.result.now c.clear_inbox.new.desk c.loop-role.invariant c.at_mut.ensures.item c.clear_inbox.ensures.store c.clear_inbox.ensures.empty c.clear_inbox.ensures.room

pub returns : goal.returns
returns c =
    cleared_all c.args.desks.now c.loop-role.desks c.loop-role.role (omega (arith, c.loop-role-test.false, c.len-role-end.ensures, cleared_length c.args.desks.now c.loop-role.desks c.loop-role.role c.loop-role.invariant)) c.loop-role.invariant
