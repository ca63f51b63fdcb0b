-- The two steps, one after the other.
use Rattle.std.proofs.Common.{rules, refl}
use Rattle.world_run.specs.Course.{state}
use Rattle.world_run.proofs.RoundLemmas.{extend_twice, idle_turn, progress_twice, still_within}
use Rattle.world_run.proofs.steps.turn.Goals as goal

pub emit-requires-clause-at_play : goal.emit-requires-clause-at_play
emit-requires-clause-at_play c = record {
  all = record { safe = c.requires.at_play.all.safe; sound = c.take-taken.ensures.extend.sound; whole = c.take-taken.ensures.step.progress.whole };
  within = still_within c.args.job.now c.args.desks.now c.take-taken.new.desks c.args.role c.requires.at_play.all.sound c.take-taken.ensures.extend.sound c.requires.at_play.within;
}

pub returns-in_err-emitted : goal.returns-in_err-emitted
returns-in_err-emitted c = record {
  extend = extend_twice c.args.job.now c.args.desks.now c.take-taken.new.desks c.emit.new.desks c.take-taken.ensures.extend c.emit.ensures.extend;
  made = search rules;
}

pub returns : goal.returns
returns c = record {
  extend = extend_twice c.args.job.now c.args.desks.now c.take-taken.new.desks c.emit.new.desks c.take-taken.ensures.extend c.emit.ensures.extend;
  made = record {
    progress = progress_twice c.args.job.now c.args.desks.now c.take-taken.new.desks c.emit.new.desks c.take-taken.result c.in_ok-emitted.emitted c.take-taken.ensures.step.progress c.in_ok-emitted.ensures.made.progress;
    idle = λ rested d at. idle_turn c.args.job.now c.take-taken.new.desks c.emit.new.desks c.args.role c.args.n c.take-taken.result c.in_ok-emitted.emitted
        c.take-taken.ensures.step.idle c.in_ok-emitted.ensures.made.progress c.in_ok-emitted.ensures.made.idle rested d at;
    course = record {
      middle = state c.take-taken.new.desks c.take-taken.new.rng;
      taken = c.take-taken.ensures.step.course;
      emitted = c.in_ok-emitted.ensures.made.course;
      word = refl;
    };
  };
}
