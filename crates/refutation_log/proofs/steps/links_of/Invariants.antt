-- What has been read of a step.
use Rattle.std.proofs.Common.{length}
use Rattle.std.specs.Option.{option_copied}
use Rattle.list_base.specs.Lines.{parts_in}
use Rattle.refutation_log.proofs.Links.{AreRead}
use Rattle.refutation_log.proofs.steps.links_of.Given as goal

abbrev pub invariant-loop-left : goal.invariant-loop-left
invariant-loop-left l = AreRead (parts_in 32 (option_copied l.fn.fields)) (parts_in 32 (option_copied l.left)) l.links l.in_range

-- the fields that are left
abbrev pub decreases-loop-left : goal.decreases-loop-left
decreases-loop-left l = length (parts_in 32 (option_copied l.left))
