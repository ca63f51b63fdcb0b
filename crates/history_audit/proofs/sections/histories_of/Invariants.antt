-- First there are empty histories, and then the sections move into them.
use Rattle.std.proofs.Common.{◌≡◌, [], length, replicate}
use Rattle.history_audit.proofs.SectionLemmas.{HaveMoved}
use Rattle.history_audit.proofs.sections.histories_of.Given as goal

abbrev pub invariant-loop-role : goal.invariant-loop-role
invariant-loop-role l = l.histories ≡ replicate l.role []

abbrev pub invariant-loop-section : goal.invariant-loop-section
invariant-loop-section l = HaveMoved l.x l.fn.sections l.left l.histories

abbrev pub decreases-loop-section : goal.decreases-loop-section
decreases-loop-section l = length l.left
