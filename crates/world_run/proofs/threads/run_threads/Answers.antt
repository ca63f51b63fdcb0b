-- The histories grew from what was joined, and the laws of finished worlds apply.
use Rattle.std.proofs.lemmas.Result.{IfOk-weaker}
use Rattle.world_run.specs.FinishedTable.{AgreeWithTable, AreCompleted}
use Rattle.world_run.specs.Joined.{AreAtMost, HaveSettled}
use Rattle.world_run.specs.World.{WorldState}
use Rattle.world_run.proofs.JoinedLemmas.{settled_grow}
use Rattle.world_run.proofs.threads.run_threads.Goals as goal

pub returns-clause-joined : goal.returns-clause-joined
returns-clause-joined g c =
    IfOk-weaker c.run_named.result (HaveSettled c.args.job.now) (λ (world : WorldState). AreAtMost world.joined world.desks) (λ world settled. settled_grow c.args.job.now world settled) c.run_named.ensures

pub returns-clause-agree : goal.returns-clause-agree
returns-clause-agree g c =
    IfOk-weaker c.run_named.result (HaveSettled c.args.job.now) (λ (world : WorldState). AgreeWithTable c.args.job.now.protocol world.desks)
    (λ world settled. c.finished_stores_agree.ensures c.args.job.now world.desks c.requires.safe settled.settles.finished) c.run_named.ensures

pub returns-clause-bound : goal.returns-clause-bound
returns-clause-bound g c live =
    IfOk-weaker c.run_named.result (HaveSettled c.args.job.now) (λ (world : WorldState). AreCompleted c.args.job.now world.desks)
    (λ world settled. c.live_keys_are_bound.ensures c.args.job.now world.desks live settled.settles.finished) c.run_named.ensures
