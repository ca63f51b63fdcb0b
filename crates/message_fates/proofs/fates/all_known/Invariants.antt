-- What was taken so far.
use Rattle.std.proofs.Common.{◌≡◌, Some, map, take}
use Rattle.message_fates.proofs.fates.all_known.Given as goal

-- the fates so far are those that were passed
abbrev pub invariant-loop-fate : goal.invariant-loop-fate
invariant-loop-fate l = take l.fate-index l.known ≡ map Some l.fates
