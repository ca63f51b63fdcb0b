-- The kinds passed so far that occur, in their order.
use Rattle.clause_core.specs.Assignment.{valuation}
use Rattle.witness_replay.specs.inner.Order.{AreOrderedBelow}
use Rattle.witness_replay.proofs.order.ordered_kinds.Given as goal

abbrev pub invariant-loop-kind : goal.invariant-loop-kind
invariant-loop-kind l = AreOrderedBelow l.vars (valuation l.s) l.kind l.kinds
