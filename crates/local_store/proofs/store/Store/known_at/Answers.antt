-- The cell of a row says what is known under its key.
use Rattle.std.proofs.Common.{subst}
use Rattle.local_store.specs.State.{acts_of, key_at}
use Rattle.local_store.proofs.KnownLemmas.{Reads, read_cell, reads_cell}
use Rattle.local_store.proofs.store.Store.known_at.Goals as goal

pub returns : goal.returns
returns c =
    let s = c.self.inside in
    let t = c.args.self.now in
    subst (Reads t.protocol (acts_of t) (key_at t c.args.row) c.args.param)
    (read_cell s.cells.items s.cells.width _ c.args.row c.args.param c.at.result c.self.invariant.1.params c.at.ensures)
    (reads_cell s.admitted s.role s.clock s.keys s.cells.items s.marks.items s.log t c.args.row c.args.param c.self.invariant.0 c.self.view_is c.requires.row c.requires.param)
