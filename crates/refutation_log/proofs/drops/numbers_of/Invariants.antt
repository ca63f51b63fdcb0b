-- What has been read of a removal.
use Rattle.std.proofs.Common.{length, Some}
use Rattle.std.specs.Option.{option_copied}
use Rattle.list_base.specs.Lines.{parts_in}
use Rattle.refutation_log.proofs.NumberFields.{NumbersRead}
use Rattle.refutation_log.proofs.drops.numbers_of.Given as goal

abbrev pub invariant-loop-left : goal.invariant-loop-left
invariant-loop-left l = NumbersRead (parts_in 32 (Some l.fields)) (parts_in 32 (option_copied l.left)) l.numbers l.in_range

-- the fields that are left
abbrev pub decreases-loop-left : goal.decreases-loop-left
decreases-loop-left l = length (parts_in 32 (option_copied l.left))
