-- The walk starts with nothing, gathers the event of each turn, and ends with all.
use Rattle.std.proofs.Common.{arith}
use Rattle.run_index.proofs.ChainLemmas.{read_at}
use Rattle.run_index.proofs.WalkLemmas.{at_end, at_next, at_start}
use Rattle.run_index.proofs.index.RunIndex.enactment.Goals as goal

pub loop-position-init : goal.loop-position-init
loop-position-init c = rw c.new-events.ensures (at_start c.args.self.now c.args.key.now c.first-position.result c.first-position.ensures)

pub loop-position-smaller : goal.loop-position-smaller
loop-position-smaller c =
    let e = c.index-run-position.result in
    let at = read_at c.args.self.now c.events-run.result.now c.loop-position.position e c.events-run.ensures c.loop-position-test.true c.index-run-position.is in
    let next = c.next-position.ensures e at in
    omega (arith, next.after, next.within)

pub loop-position-preserved : goal.loop-position-preserved
loop-position-preserved c =
    let e = c.index-run-position.result in
    let at = read_at c.args.self.now c.events-run.result.now c.loop-position.position e c.events-run.ensures c.loop-position-test.true c.index-run-position.is in
    rw c.in_ok-push.ensures.ok (at_next c.args.self.now c.args.key.now c.loop-position.position c.next-position.result e c.loop-position.events at c.loop-position.invariant (c.next-position.ensures e at))

pub returns : goal.returns
returns c = at_end c.args.self.now c.args.key.now c.loop-position.position c.loop-position.events (rw c.events-run.ensures at c.loop-position-test.false) c.loop-position.invariant
