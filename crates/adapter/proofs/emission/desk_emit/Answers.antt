-- The planned envelope is the next one, and is for its receiver.
use Rattle.adapter.proofs.PostedLemmas.{is_for}
use Rattle.adapter.proofs.emission.desk_emit.Goals as goal

pub returns-clause-posted : goal.returns-clause-posted
returns-clause-posted c some =
    let e = c.plan-planned.result.envelope in
    is_for c.args.job.now c.args.desk.now.store.role e.to e (c.plan-planned.ensures.mailed some)
