-- The values of the parameters passed so far.
use Rattle.std.proofs.Common.{take}
use Rattle.std.specs.List.{AllZip}
use Rattle.bspl_types.specs.Adornment.{valued}
use Rattle.witness_replay.specs.inner.Values.{HasValueOf}
use Rattle.witness_replay.proofs.values.values_after.Given as goal

abbrev pub invariant-loop-c : goal.invariant-loop-c
invariant-loop-c l = AllZip (HasValueOf l.x l.before l.m) (valued (take l.c-index l.carried)) l.values
