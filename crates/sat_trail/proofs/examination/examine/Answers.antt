-- A clause with two literals that have no value is settled; the others are examined to the end.
use Rattle.std.proofs.Common.{sym, Some, None, take, subst, ◌+◌}
use Rattle.sat_trail.specs.Entry.{values_of}
use Rattle.sat_trail.proofs.SettledLemmas.{SoFar, SoFar-false, SoFar-left, SoFar-two, SoFar-all, SoFar-none, opposite_value}
use Rattle.sat_trail.proofs.examination.examine.Goals as goal
use Rattle.sat_trail.proofs.examination.examine.Goals.{in-Some+else-value-lit, in-None+else-is_some}

pub returns-then-is_some : goal.returns-then-is_some
returns-then-is_some c = SoFar-two _ _ _ _ _ c.requires.ascending c.loop-lit-test.true (sym c.if-is_some.ensures) c.loop-lit.invariant (sym c.in-None.ensures)

pub loop-lit-preserved : goal.loop-lit-preserved
loop-lit-preserved c = elim c.match-value.branch [
  | in-Some+else-value-lit w ↦
      subst (SoFar (values_of c.args.set.now.entries) (take (c.loop-lit.lit-index + 1) c.args.clause.now)) (sym w.left-is)
      (SoFar-false (values_of c.args.set.now.entries) _ _ _ _ c.loop-lit-test.true c.loop-lit.invariant (opposite_value _ _ _ w.in-Some.ensures w.if-value-lit.false))
  | in-None+else-is_some w ↦
      subst (SoFar (values_of c.args.set.now.entries) (take (c.loop-lit.lit-index + 1) c.args.clause.now)) (sym w.left-is)
      (SoFar-left (values_of c.args.set.now.entries) _ _ _ c.loop-lit-test.true (SoFar-none (values_of c.args.set.now.entries) _ _ (sym w.if-is_some.ensures) c.loop-lit.invariant) (sym w.in-None.ensures))
]

pub returns-in-None-left : goal.returns-in-None-left
returns-in-None-left c =
    SoFar-all (values_of c.args.set.now.entries) _ _ None c.loop-lit-test.false (subst (SoFar (values_of c.args.set.now.entries) (take c.loop-lit.lit-index c.args.clause.now)) c.in-None-left.is c.loop-lit.invariant)

pub returns-in-Some-left : goal.returns-in-Some-left
returns-in-Some-left c =
    SoFar-all (values_of c.args.set.now.entries) _ _ (Some _) c.loop-lit-test.false (subst (SoFar (values_of c.args.set.now.entries) (take c.loop-lit.lit-index c.args.clause.now)) c.in-Some-left.is c.loop-lit.invariant)
