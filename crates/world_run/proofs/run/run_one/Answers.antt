-- New desks are kept and have no receipts, and settled desks are those of one protocol.
use Rattle.world_run.proofs.OpenLemmas.{opened_new, opened_sound}
use Rattle.world_run.proofs.WorldLemmas.{of_one}
use Rattle.world_run.proofs.run.run_one.Goals as goal

pub invariant_of-world : goal.invariant_of-world
invariant_of-world c = of_one c.args.job.now c.in_ok-desks.desks (opened_sound c.args.job.now c.in_ok-desks.desks c.in_ok-desks.ensures).kept

pub settle-requires-clause-kept : goal.settle-requires-clause-kept
settle-requires-clause-kept c = (opened_sound c.args.job.now c.in_ok-desks.desks c.in_ok-desks.ensures).kept

pub settle-requires-clause-explained : goal.settle-requires-clause-explained
settle-requires-clause-explained c = (opened_sound c.args.job.now c.in_ok-desks.desks c.in_ok-desks.ensures).explained

pub returns-clause-finished : goal.returns-clause-finished
returns-clause-finished c = c.in_ok-settle.ensures.ok.finished

pub returns-clause-course : goal.returns-clause-course
returns-clause-course c =
    record {
      kept = c.settle.ensures.continues.kept;
      opened = c.in_ok-desks.desks;
      new = opened_new c.args.job.now c.in_ok-desks.desks c.in_ok-desks.ensures;
      settles = c.in_ok-settle.ensures.ok;
    }

pub returns-clause-agree : goal.returns-clause-agree
returns-clause-agree c = c.finished_stores_agree.ensures c.args.job.now c.settle.new.world.desks c.requires.safe c.in_ok-settle.ensures.ok.finished

pub returns-clause-bound : goal.returns-clause-bound
returns-clause-bound c live = c.live_keys_are_bound.ensures c.args.job.now c.settle.new.world.desks live c.in_ok-settle.ensures.ok.finished
