-- Each spent copy is one less.
use Rattle.std.proofs.Common.{◌-◌, ap, arith}
use Rattle.bspl_types.specs.declared.envelope.Envelope.{Envelope}
use Rattle.world_run.specs.inner.Work.{copies_in}
use Rattle.world_run.proofs.InboxLemmas.{spent_less}
use Rattle.world_run.proofs.inboxes.clear_inbox.Goals as goal

pub copies-smaller : goal.copies-smaller
copies-smaller c =
    let e : Envelope = c.at.result.now in
    omega (arith, ap copies_in (c.spend.ensures.list e c.at.ensures.item), spent_less c.copies.inbox.envelopes (c.len-last.result - 1) e c.at.ensures.item c.at.ensures.some)
