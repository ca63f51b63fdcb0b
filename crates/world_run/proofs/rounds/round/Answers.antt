-- The turns of one role more.
use Rattle.std.proofs.Common.{rules, ◌≡◌, ℕ, ◌<◌, List, length, arith, refl, subst}
use Rattle.std.proofs.lemmas.Option.{slice_get_within}
use Rattle.adapter.specs.Desk.{DeskState}
use Rattle.world_run.specs.Course.{AreSteps, AreTurns, state}
use Rattle.world_run.specs.inner.Idle.{IsIdleRole}
use Rattle.world_run.proofs.CourseLemmas.{step_more}
use Rattle.world_run.proofs.RoundLemmas.{extend_twice, steps_more, steps_none}
use Rattle.world_run.proofs.rounds.round.Goals as goal

pub loop-role-init : goal.loop-role-init
loop-role-init c =
    record {
      steps = steps_none (λ (ds : List DeskState) (k : ℕ). IsIdleRole c.args.job.now ds k) c.args.job.now c.args.desks.now c.requires.sound c.requires.whole;
      course = refl;
    }

pub turns-requires : goal.turns-requires
turns-requires c = record {
  all = record { safe = c.requires.safe; sound = c.loop-role.invariant.steps.extend.sound; whole = c.loop-role.invariant.steps.progress.whole };
  within = omega (arith, c.loop-role-test.true, c.len-role-end.ensures, c.loop-role.invariant.steps.extend.sound.kept.count, c.requires.sound.kept.count);
}

pub returns-in_err-acted : goal.returns-in_err-acted
returns-in_err-acted c = record {
  extend = extend_twice c.args.job.now c.args.desks.now c.loop-role.desks c.turns.new.desks c.loop-role.invariant.steps.extend c.turns.ensures.extend;
  made = search rules;
}

pub loop-role-preserved : goal.loop-role-preserved
loop-role-preserved c =
    record {
      steps = steps_more (λ (ds : List DeskState) (k : ℕ). IsIdleRole c.args.job.now ds k) c.args.job.now c.args.desks.now c.loop-role.desks c.turns.new.desks c.loop-role.acted c.in_ok-acted.field-0 c.loop-role.role
          c.loop-role.invariant.steps c.turns.ensures.extend c.in_ok-acted.ensures.made.progress c.in_ok-acted.ensures.made.idle;
      course = step_more (AreTurns c.args.job.now) c.loop-role.role (state c.args.desks.now c.args.rng.now) (state c.loop-role.desks c.loop-role.rng) (state c.turns.new.desks c.turns.new.rng) c.loop-role.invariant.course c.in_ok-acted.ensures.made.course;
    }

pub returns : goal.returns
returns c =
    let all : c.loop-role.role ≡ length c.args.job.now.protocol.roles = omega (arith, c.loop-role-test.false, c.len-role-end.ensures, c.requires.sound.kept.count) in
    record {
      extend = c.loop-role.invariant.steps.extend;
      made = record {
        progress = c.loop-role.invariant.steps.progress;
        idle = λ rested role d at.
            let within : role < c.loop-role.role = omega (arith, slice_get_within c.loop-role.desks role d at, c.loop-role.invariant.steps.extend.sound.kept.count, c.requires.sound.kept.count, c.len-role-end.ensures, c.loop-role-test.false) in
            c.loop-role.invariant.steps.idle rested role within d at;
        course = subst (λ (k : ℕ). AreSteps (AreTurns c.args.job.now) k (state c.args.desks.now c.args.rng.now) (state c.loop-role.desks c.loop-role.rng)) all c.loop-role.invariant.course;
      };
    }
