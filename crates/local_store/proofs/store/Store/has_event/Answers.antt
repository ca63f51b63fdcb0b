-- The mark of a row says whether there is an event of the message under its key.
use Rattle.local_store.proofs.KnownLemmas.{reads_mark}
use Rattle.local_store.proofs.store.Store.has_event.Goals as goal

pub returns : goal.returns
returns c =
    let s = c.self.inside in
    reads_mark s.admitted s.role s.clock s.keys s.cells.items s.marks.items s.log c.args.self.now s.marks.width c.args.row c.args.message c.at.result c.self.invariant.0 c.self.invariant.1.messages c.self.view_is c.requires.row_within c.requires.message_within c.at.ensures
