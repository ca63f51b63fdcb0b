-- All that have copies are counted.
use Rattle.std.proofs.Common.{length, ap, ◌∙◌}
use Rattle.reorder_net.proofs.InboxLemmas.{all_counted}
use Rattle.reorder_net.proofs.inbox.Inbox.len.Goals as goal

pub returns : goal.returns
returns c =
    let s = c.self.inside in
    all_counted s.slots.items s.marks.items s.blocks.items s.groups.items s.all c.self.invariant.0 ∙ ap (λ inbox. length inbox.envelopes) c.self.view_is
