-- What is left to fill, and how many calls are left to look at.
use Rattle.std.proofs.Common.{◌≡◌, length}
use Rattle.std.specs.List.{All}
use Rattle.role_journal.specs.Recording.{filled, unsettled}
use Rattle.role_journal.specs.inner.Steps.{IsWithin}
use Rattle.role_journal.proofs.recording.fill_unsettled.Given as goal

-- filling what the earlier calls left unsettled gives the whole; their ranges are within
abbrev pub invariant-loop-call : goal.invariant-loop-call
invariant-loop-call l = record {
  whole : filled l.content (unsettled l.earlier) l.byte ≡ filled l.fn.content (unsettled l.calls) l.byte;
  size : length l.content ≡ length l.fn.content;
  within : All (IsWithin (length l.fn.content)) l.earlier;
}

abbrev pub decreases-loop-call : goal.decreases-loop-call
decreases-loop-call l = length l.earlier
