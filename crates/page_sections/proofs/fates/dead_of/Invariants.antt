-- What has been found.
use Rattle.std.proofs.Common.{◌≡◌, map, take}
use Rattle.page_sections.specs.Fates.{is_never_sent}
use Rattle.page_sections.proofs.fates.dead_of.Given as goal

-- which of the messages so far are dead
abbrev pub invariant-loop-fate : goal.invariant-loop-fate
invariant-loop-fate l = l.dead ≡ map is_never_sent (take l.fate-index l.fates)
