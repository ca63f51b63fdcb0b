-- One role more.
use Rattle.std.proofs.Common.{◌≡◌, ℕ, arith, ◌∙◌, length, refl, subst, sym}
use Rattle.stamped_history.specs.Explained.{AreExplained}
use Rattle.world_run.specs.Course.{AreSteps}
use Rattle.world_run.specs.Renewal.{RepostsAll}
use Rattle.world_run.proofs.RenewalLemmas.{reposts_keep}
use Rattle.world_run.proofs.UndeliveredLemmas.{cleared_histories, cleared_kept, cleared_sound, renewed_extend, renewed_more, renewed_posted, renewed_whole}
use Rattle.world_run.proofs.inboxes.renew_inboxes.Goals as goal

pub loop-role-init : goal.loop-role-init
loop-role-init c =
    let job = c.args.job.now in
    let old = c.args.desks.now in
    let new = c.clear_inboxes.new.desks in
    let kept = cleared_kept job old new c.requires.kept c.clear_inboxes.ensures in
    let histories = cleared_histories old new c.clear_inboxes.ensures in
    let explained = subst (AreExplained job.protocol) (sym histories) c.requires.explained in
    record {
      sound = cleared_sound job old new c.requires.kept c.requires.explained (c.kept_desks_merge.ensures job new c.is_orderly.ensures.script_is kept explained) c.clear_inboxes.ensures;
      histories = histories;
      arrive = λ role within. absurd (omega (arith, within));
      emptied = new;
      cleared = c.clear_inboxes.ensures;
      steps = refl;
    }

pub post_all-requires-clause-sound : goal.post_all-requires-clause-sound
post_all-requires-clause-sound c = c.loop-role.invariant.sound

pub loop-role-preserved : goal.loop-role-preserved
loop-role-preserved c =
    renewed_more c.args.job.now c.args.desks.now c.loop-role.desks c.post_all.new.desks c.loop-role.role c.loop-role.invariant c.post_all.ensures.posted c.in_ok-post_all.ensures.arrive c.in_ok-post_all.ensures.steps

pub returns-in_err-post_all-clause-extend : goal.returns-in_err-post_all-clause-extend
returns-in_err-post_all-clause-extend c =
    renewed_posted c.args.job.now c.args.desks.now c.loop-role.desks c.post_all.new.desks c.loop-role.role c.loop-role.invariant c.post_all.ensures.posted

pub returns-clause-extend : goal.returns-clause-extend
returns-clause-extend c = renewed_extend c.args.job.now c.args.desks.now c.loop-role.desks c.loop-role.role c.loop-role.invariant

pub returns-clause-whole : goal.returns-clause-whole
returns-clause-whole c =
    let kept = cleared_kept c.args.job.now c.args.desks.now c.clear_inboxes.new.desks c.requires.kept c.clear_inboxes.ensures in
    renewed_whole c.args.job.now c.args.desks.now c.loop-role.desks c.loop-role.role
    (omega (arith, c.loop-role.invariant.sound.kept.count, kept.count, c.len-role-end.ensures, c.loop-role-test.false)) c.loop-role.invariant

pub returns-in_err-post_all-clause-same : goal.returns-in_err-post_all-clause-same
returns-in_err-post_all-clause-same c = c.post_all.ensures.posted.histories ∙ c.loop-role.invariant.histories

pub returns-clause-same : goal.returns-clause-same
returns-clause-same c = c.loop-role.invariant.histories

pub returns-clause-renewed : goal.returns-clause-renewed
returns-clause-renewed c =
    let kept = cleared_kept c.args.job.now c.args.desks.now c.clear_inboxes.new.desks c.requires.kept c.clear_inboxes.ensures in
    let all : c.loop-role.role ≡ length c.args.job.now.protocol.roles = omega (arith, kept.count, c.len-role-end.ensures, c.loop-role-test.false) in
    let steps = c.loop-role.invariant.steps in
    record {
      stores = reposts_keep c.args.job.now c.loop-role.role c.loop-role.invariant.emptied c.loop-role.desks steps ∙ c.loop-role.invariant.cleared.stores;
      emptied = c.loop-role.invariant.emptied;
      cleared = c.loop-role.invariant.cleared;
      posted = subst (λ (k : ℕ). AreSteps (RepostsAll c.args.job.now) k c.loop-role.invariant.emptied c.loop-role.desks) all steps;
    }
