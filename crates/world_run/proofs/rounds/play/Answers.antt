-- The rounds one after another.
use Rattle.std.proofs.Common.{◌≡◌, false, arith}
use Rattle.world_run.specs.Course.{state}
use Rattle.world_run.proofs.CourseLemmas.{no_rounds, round_more}
use Rattle.world_run.proofs.RoundLemmas.{extend_none, extend_twice}
use Rattle.world_run.proofs.rounds.play.Goals as goal

pub returns-in_err-acted-clause-extend : goal.returns-in_err-acted-clause-extend
returns-in_err-acted-clause-extend c =
    extend_twice c.args.job.now c.args.desks.now c.rounds.desks c.round.new.desks c.rounds.invariant.extend c.round.ensures.extend

pub returns-then-not-acted-clause-ok : goal.returns-then-not-acted-clause-ok
returns-then-not-acted-clause-ok c =
    let rested : c.in_ok-acted.acted ≡ false = grind (arith, c.if-not-acted.true) in
    record {
      whole = c.in_ok-acted.ensures.made.progress.whole;
      idle = c.in_ok-acted.ensures.made.idle rested;
      course = round_more c.args.job.now (state c.args.desks.now c.args.rng.now) (state c.rounds.desks c.rounds.rng) (state c.round.new.desks c.round.new.rng) c.rounds.invariant.course c.in_ok-acted.ensures.made.course;
    }

pub rounds-preserved : goal.rounds-preserved
rounds-preserved c =
    record {
      extend = extend_twice c.args.job.now c.args.desks.now c.rounds.desks c.round.new.desks c.rounds.invariant.extend c.round.ensures.extend;
      whole = c.in_ok-acted.ensures.made.progress.whole;
      course = round_more c.args.job.now (state c.args.desks.now c.args.rng.now) (state c.rounds.desks c.rounds.rng) (state c.round.new.desks c.round.new.rng) c.rounds.invariant.course c.in_ok-acted.ensures.made.course;
    }

pub rounds-init : goal.rounds-init
rounds-init c =
    record {
      extend = extend_none c.args.job.now c.args.desks.now c.requires.sound;
      whole = c.requires.whole;
      course = no_rounds c.args.job.now (state c.args.desks.now c.args.rng.now);
    }

pub round-requires : goal.round-requires
round-requires c = record { safe = c.requires.safe; sound = c.rounds.invariant.extend.sound; whole = c.rounds.invariant.whole }
