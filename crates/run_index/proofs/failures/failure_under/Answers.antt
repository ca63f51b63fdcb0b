-- The walk ends at the first event that does not meet the demand, or passes all.
use Rattle.std.proofs.Common.{arith}
use Rattle.std.proofs.lemmas.Bool.{iff_false}
use Rattle.run_index.proofs.ChainLemmas.{read_at}
use Rattle.run_index.proofs.WalkLemmas.{facts_before, failure_here, no_failure, passed_next, passed_start}
use Rattle.run_index.proofs.failures.failure_under.Goals as goal

pub loop-position-init : goal.loop-position-init
loop-position-init c = passed_start c.args.x.now c.args.demand c.args.index.now c.args.key.now c.first-position.result c.new-facts.result c.first-position.ensures c.new-facts.ensures

pub meets-requires-clause-facts : goal.meets-requires-clause-facts
meets-requires-clause-facts c = facts_before c.args.x.now c.args.demand c.args.index.now c.args.key.now c.loop-position.position c.loop-position.facts c.loop-position.invariant

pub returns-then-not-meets : goal.returns-then-not-meets
returns-then-not-meets c =
    let x = c.args.x.now in
    let e = c.index-run-position.result in
    let at = read_at c.args.index.now c.events-run.result.now c.loop-position.position e c.events-run.ensures c.loop-position-test.true c.index-run-position.is in
    failure_here x c.args.demand c.args.index.now c.args.key.now c.loop-position.position e c.loop-position.facts at c.loop-position.invariant (iff_false (c.meets.ensures e at) c.if-not-meets.true)

pub loop-position-smaller : goal.loop-position-smaller
loop-position-smaller c =
    let e = c.index-run-position.result in
    let at = read_at c.args.index.now c.events-run.result.now c.loop-position.position e c.events-run.ensures c.loop-position-test.true c.index-run-position.is in
    let next = c.next-position.ensures e at in
    omega (arith, next.after, next.within)

pub loop-position-preserved : goal.loop-position-preserved
loop-position-preserved c =
    let x = c.args.x.now in
    let e = c.index-run-position.result in
    let at = read_at c.args.index.now c.events-run.result.now c.loop-position.position e c.events-run.ensures c.loop-position-test.true c.index-run-position.is in
    let meets = (c.meets.ensures e at).0 c.if-not-meets.false in
    passed_next x c.args.demand c.args.index.now c.args.key.now c.loop-position.position c.next-position.result e c.loop-position.facts c.learn.new.self at c.loop-position.invariant meets c.in_ok-learn.ensures (c.next-position.ensures e at)

pub returns : goal.returns
returns c =
    no_failure c.args.x.now c.args.demand c.args.index.now c.args.key.now c.loop-position.position c.loop-position.facts (rw c.events-run.ensures at c.loop-position-test.false) c.loop-position.invariant
