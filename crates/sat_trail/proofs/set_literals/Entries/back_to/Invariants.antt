-- What is left, with what was taken out, is what there was.
use Rattle.std.proofs.Common.{length}
use Rattle.sat_trail.specs.inner.Storage.{StartsWith}
use Rattle.sat_trail.proofs.set_literals.Entries.back_to.Given as goal

abbrev pub invariant-loop-self : goal.invariant-loop-self
invariant-loop-self l = StartsWith l.level l.fn.self l.self

abbrev pub decreases-loop-self : goal.decreases-loop-self
decreases-loop-self l = length l.self.entries
