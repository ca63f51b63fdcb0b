-- Nothing is held where all counts are none.
use Rattle.std.proofs.Common.{ap, sym, ◌∙◌}
use Rattle.std.proofs.lemmas.List.{nil_from_length}
use Rattle.reorder_net.specs.inner.Slots.{held}
use Rattle.reorder_net.proofs.InboxLemmas.{all_counted}
use Rattle.reorder_net.proofs.inbox.Inbox.free_slots.Goals as goal

pub returns-then-self-eq0-clause-same : goal.returns-then-self-eq0-clause-same
returns-then-self-eq0-clause-same c =
    let slots = c.self.inside.slots.items in
    ap held c.clear.ensures.items
    ∙ sym (nil_from_length (held slots) (sym (all_counted slots c.self.inside.marks.items c.self.inside.blocks.items c.self.inside.groups.items c.self.inside.all c.self.invariant.0) ∙ c.if-self-eq0.true))
    ∙ ap (λ inbox. inbox.envelopes) c.self.view_is
