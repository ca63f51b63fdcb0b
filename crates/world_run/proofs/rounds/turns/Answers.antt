-- One turn more.
use Rattle.std.proofs.Common.{rules, ◌≡◌, ℕ, ◌+◌, ◌-◌, ◌<◌, Some, List, length, slice_get, ap, arith, refl, subst}
use Rattle.adapter.specs.Desk.{DeskState}
use Rattle.agent_scripts.specs.Script.{Script}
use Rattle.world_run.specs.Course.{AreSteps, IsTurn, state}
use Rattle.world_run.specs.inner.Idle.{IsIdleAt}
use Rattle.world_run.proofs.CourseLemmas.{step_more}
use Rattle.world_run.proofs.RoundLemmas.{extend_twice, steps_more, steps_none}
use Rattle.world_run.proofs.rounds.turns.Goals as goal

pub loop-index-init : goal.loop-index-init
loop-index-init c =
    record {
      steps = steps_none (λ (ds : List DeskState) (k : ℕ). (d : DeskState) → slice_get ds c.args.role ≡ Some d → IsIdleAt c.args.job.now d (k + 1)) c.args.job.now c.args.desks.now c.requires.all.sound c.requires.all.whole;
      course = refl;
    }

pub turn-requires-clause-at_play : goal.turn-requires-clause-at_play
turn-requires-clause-at_play c = record {
  all = record { safe = c.requires.all.safe; sound = c.loop-index.invariant.steps.extend.sound; whole = c.loop-index.invariant.steps.progress.whole };
  within = omega (arith, c.requires.within, c.loop-index.invariant.steps.extend.sound.kept.count, c.requires.all.sound.kept.count);
}

pub returns-in_err-acted : goal.returns-in_err-acted
returns-in_err-acted c = record {
  extend = extend_twice c.args.job.now c.args.desks.now c.loop-index.desks c.turn.new.desks c.loop-index.invariant.steps.extend c.turn.ensures.extend;
  made = search rules;
}

pub loop-index-preserved : goal.loop-index-preserved
loop-index-preserved c =
    record {
      steps = steps_more (λ (ds : List DeskState) (k : ℕ). (d : DeskState) → slice_get ds c.args.role ≡ Some d → IsIdleAt c.args.job.now d (k + 1)) c.args.job.now c.args.desks.now c.loop-index.desks c.turn.new.desks c.loop-index.acted c.in_ok-acted.field-0 c.loop-index.index
          c.loop-index.invariant.steps c.turn.ensures.extend c.in_ok-acted.ensures.made.progress c.in_ok-acted.ensures.made.idle;
      course = step_more (λ (k : ℕ). IsTurn c.args.job.now c.args.role (k + 1)) c.loop-index.index (state c.args.desks.now c.args.rng.now) (state c.loop-index.desks c.loop-index.rng) (state c.turn.new.desks c.turn.new.rng) c.loop-index.invariant.course c.in_ok-acted.ensures.made.course;
    }

pub returns : goal.returns
returns c =
    let keys = ap (λ (s : Script). length s.keys) c.script.ensures.same in
    let all : c.loop-index.index ≡ length c.args.job.now.script.keys = omega (arith, c.loop-index-test.false, c.count-index-end.ensures.count, keys) in
    record {
      extend = c.loop-index.invariant.steps.extend;
      made = record {
        progress = c.loop-index.invariant.steps.progress;
        idle = λ rested d at n is.
            let within : n - 1 < c.loop-index.index = omega (arith, is.some, is.within, c.loop-index-test.false, c.count-index-end.ensures.count, keys) in
            subst (IsIdleAt c.args.job.now d) (omega (arith, is.some)) (c.loop-index.invariant.steps.idle rested (n - 1) within d at);
        course = subst (λ (k : ℕ). AreSteps (λ (j : ℕ). IsTurn c.args.job.now c.args.role (j + 1)) k (state c.args.desks.now c.args.rng.now) (state c.loop-index.desks c.loop-index.rng)) all c.loop-index.invariant.course;
      };
    }
