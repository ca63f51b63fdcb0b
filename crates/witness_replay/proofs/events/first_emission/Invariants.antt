-- No event passed so far is an emission of the message.
use Rattle.std.proofs.Common.{take}
use Rattle.witness_replay.specs.inner.Steps.{HasEmission}
use Rattle.witness_replay.proofs.events.first_emission.Given as goal

abbrev pub invariant-loop-event : goal.invariant-loop-event
invariant-loop-event l = ¬ HasEmission (take l.event-index l.run) l.m
