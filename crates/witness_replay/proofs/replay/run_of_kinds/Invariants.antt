-- The run of the kinds passed so far.
use Rattle.std.proofs.Common.{take}
use Rattle.witness_replay.specs.Witness.{IsRunOfKinds}
use Rattle.witness_replay.proofs.replay.run_of_kinds.Given as goal

abbrev pub invariant-loop-kind : goal.invariant-loop-kind
invariant-loop-kind l = IsRunOfKinds l.x (take l.kind-index l.kinds) l.run
