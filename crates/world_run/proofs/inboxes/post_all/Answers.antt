-- One entry more.
use Rattle.std.proofs.Common.{◌≡◌, ℕ, ap, arith, length, subst}
use Rattle.local_store.specs.State.{StoreState}
use Rattle.stamped_history.specs.declared.entry.Entry.{Entry}
use Rattle.stamped_history.specs.Explained.{history_at}
use Rattle.std.proofs.Common.{List}
use Rattle.world_run.specs.Course.{AreSteps}
use Rattle.world_run.specs.Renewal.{Reposts}
use Rattle.world_run.specs.World.{histories_of}
use Rattle.world_run.proofs.UndeliveredLemmas.{posted_more, posted_start, posted_twice}
use Rattle.world_run.proofs.WorldLemmas.{history_is}
use Rattle.world_run.proofs.inboxes.post_all.Goals as goal

pub loop-index-init : goal.loop-index-init
loop-index-init c = posted_start c.args.job.now c.args.desks.now c.args.role c.requires.sound

pub post-requires-clause-sound : goal.post-requires-clause-sound
post-requires-clause-sound c = c.loop-index.invariant.posted.sound

pub post-requires-clause-role : goal.post-requires-clause-role
post-requires-clause-role c = omega (arith, c.requires.role, c.requires.sound.kept.count, c.loop-index.invariant.posted.sound.kept.count)

pub post-requires-clause-index : goal.post-requires-clause-index
post-requires-clause-index c =
    let same = ap (λ (hs : List (List Entry)). length (history_at hs c.args.role)) c.loop-index.invariant.posted.histories in
    let here = ap length (history_is c.args.desks.now c.args.role c.at.result.now c.at.ensures) in
    omega (arith, c.loop-index-test.true, same, here, c.len-index-end.ensures.count, ap (λ (s : StoreState). length s.entries) c.store.ensures)

pub loop-index-preserved : goal.loop-index-preserved
loop-index-preserved c =
    posted_more c.args.job.now c.args.desks.now c.loop-index.desks c.post.new.desks c.args.role c.loop-index.index c.loop-index.invariant c.post.ensures.posted c.in_ok-post.ensures.arrive c.in_ok-post.ensures.step

pub returns-in_err-post-clause-posted : goal.returns-in_err-post-clause-posted
returns-in_err-post-clause-posted c =
    posted_twice c.args.job.now c.args.desks.now c.loop-index.desks c.post.new.desks c.loop-index.invariant.posted c.post.ensures.posted

pub returns-clause-posted : goal.returns-clause-posted
returns-clause-posted c = c.loop-index.invariant.posted

pub returns-clause-arrive : goal.returns-clause-arrive
returns-clause-arrive c =
    let here = ap length (history_is c.args.desks.now c.args.role c.at.result.now c.at.ensures) in
    λ k e within at. c.loop-index.invariant.arrive k e (omega (arith, within, c.loop-index-test.false, here, c.len-index-end.ensures.count, ap (λ (s : StoreState). length s.entries) c.store.ensures)) at

pub returns-clause-steps : goal.returns-clause-steps
returns-clause-steps c =
    let here = ap length (history_is c.args.desks.now c.args.role c.at.result.now c.at.ensures) in
    let all : c.loop-index.index ≡ length (history_at (histories_of c.args.desks.now) c.args.role) = omega (arith, c.loop-index-test.false, here, c.len-index-end.ensures.count, ap (λ (s : StoreState). length s.entries) c.store.ensures) in
    subst (λ (k : ℕ). AreSteps (Reposts c.args.job.now c.args.role) k c.args.desks.now c.loop-index.desks) all c.loop-index.invariant.steps
