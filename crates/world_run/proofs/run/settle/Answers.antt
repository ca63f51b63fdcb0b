-- The desks are those of one protocol, no history lost an entry, and the play is by the seed.
use Rattle.std.proofs.Common.{◌≡◌, List, ap, subst}
use Rattle.rand_pcg.specs.Lcg.{Lcg}
use Rattle.adapter.specs.Desk.{DeskState}
use Rattle.world_run.specs.Course.{IsPlay, state}
use Rattle.world_run.specs.Renewal.{AreRenewed}
use Rattle.world_run.specs.Settling.{Settles}
use Rattle.world_run.specs.World.{histories_of, HistoriesGrow, WorldState}
use Rattle.world_run.specs.inner.Steps.{PlaysToEnd}
use Rattle.world_run.proofs.CourseLemmas.{on_ok_then}
use Rattle.world_run.proofs.GrowLemmas.{grow_twice}
use Rattle.world_run.proofs.WorldLemmas.{of_one}
use Rattle.world_run.proofs.run.settle.Goals as goal

pub invariant_of-world : goal.invariant_of-world
invariant_of-world c = of_one c.args.job.now c.renew_inboxes.new.desks c.renew_inboxes.ensures.extend.sound.kept

pub returns-in_err-renew_inboxes-clause-continues : goal.returns-in_err-renew_inboxes-clause-continues
returns-in_err-renew_inboxes-clause-continues c =
    let start : c.world.inside.desks ≡ c.args.world.now.desks = ap (λ (w : WorldState). w.desks) c.world.view_is in
    record {
      kept = c.renew_inboxes.ensures.extend.sound.kept;
      explained = c.renew_inboxes.ensures.extend.sound.explained;
      grow = subst (λ (ds : List DeskState). HistoriesGrow (histories_of ds) (histories_of c.renew_inboxes.new.desks)) start c.renew_inboxes.ensures.extend.grow;
    }

pub invariant_of-world-2 : goal.invariant_of-world-2
invariant_of-world-2 c = of_one c.args.job.now c.play.new.desks c.play.ensures.extend.sound.kept

pub returns-clause-ok : goal.returns-clause-ok
returns-clause-ok c =
    let start : c.world.inside.desks ≡ c.args.world.now.desks = ap (λ (w : WorldState). w.desks) c.world.view_is in
    on_ok_then c.play.result (PlaysToEnd c.args.job.now (state c.renew_inboxes.new.desks c.first_generator.result) (state c.play.new.desks c.play.new.rng))
    (Settles c.args.job.now c.args.world.now.desks c.play.new.desks) (λ plays. record {
      finished = (c.idle_desks_finish.ensures c.play.new.desks c.play.ensures.extend.sound plays.whole plays.idle).finished;
      empty = (c.idle_desks_finish.ensures c.play.new.desks c.play.ensures.extend.sound plays.whole plays.idle).empty;
      course = record {
        renewed = c.renew_inboxes.new.desks;
        renewal = subst (λ (ds : List DeskState). AreRenewed c.args.job.now ds c.renew_inboxes.new.desks) start c.in_ok-renew_inboxes.ensures.renewed;
        sent = c.renew_inboxes.ensures.extend.sound.sent;
        last = c.play.new.rng;
        play = subst (λ (g : Lcg). IsPlay c.args.job.now (state c.renew_inboxes.new.desks g) (state c.play.new.desks c.play.new.rng)) c.first_generator.ensures plays.course;
      };
    }) c.play.ensures.ok

pub returns-clause-continues : goal.returns-clause-continues
returns-clause-continues c =
    let start : c.world.inside.desks ≡ c.args.world.now.desks = ap (λ (w : WorldState). w.desks) c.world.view_is in
    let renewed : HistoriesGrow (histories_of c.args.world.now.desks) (histories_of c.renew_inboxes.new.desks) = subst (λ (ds : List DeskState). HistoriesGrow (histories_of ds) (histories_of c.renew_inboxes.new.desks)) start c.renew_inboxes.ensures.extend.grow in
    record {
      kept = c.play.ensures.extend.sound.kept;
      explained = c.play.ensures.extend.sound.explained;
      grow = grow_twice (histories_of c.args.world.now.desks) (histories_of c.renew_inboxes.new.desks) (histories_of c.play.new.desks) renewed c.play.ensures.extend.grow;
    }
