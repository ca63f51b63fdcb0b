-- The copies that are left, and the room that is kept.
use Rattle.std.proofs.Common.{◌≤◌}
use Rattle.world_run.specs.inner.Work.{copies_in}
use Rattle.world_run.proofs.inboxes.clear_inbox.Given as goal

abbrev pub invariant-copies : goal.invariant-copies
invariant-copies l = l.fn.desk.inbox.spare ≤ l.inbox.spare

abbrev pub decreases-copies : goal.decreases-copies
decreases-copies l = copies_in l.inbox.envelopes
