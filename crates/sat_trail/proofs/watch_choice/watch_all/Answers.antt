-- One clause after the other is attached.
use Rattle.std.proofs.Common.{◌+◌, ap, arith, rules}
use Rattle.sat_trail.proofs.AdditionLemmas.{attached-start, attached-blank, attached-next}
use Rattle.sat_trail.proofs.watch_choice.watch_all.Goals as goal

pub loop-clause-init : goal.loop-clause-init
loop-clause-init c = record { counted = search rules; attached = attached-start _ _ _ _ c.requires.room c.requires.empty }

pub attach-requires-clause-blank : goal.attach-requires-clause-blank
attach-requires-clause-blank c = record {
  from_one = omega arith;
  within = search rules;
  unwatched = attached-blank _ _ _ _ _ _ c.loop-clause.invariant.counted c.loop-clause-test.true c.loop-clause.invariant.attached;
}

pub loop-clause-preserved : goal.loop-clause-preserved
loop-clause-preserved c = record {
  counted = ap (λ n. n + 1) c.loop-clause.invariant.counted;
  attached = attached-next _ _ c.loop-clause.number c.vars.result _ c.args.set.now.entries c.clause-item.result c.lits.result.now _ _ _ _ c.first_two.result c.loop-clause.invariant.counted c.vars.ensures.same c.requires.none c.loop-clause-test.true c.clause-item.is c.lits.ensures.same
      c.loop-clause.invariant.attached c.first_two.ensures.chosen c.first_two.ensures.none c.attach.ensures.linked c.attach.ensures.attached;
}
