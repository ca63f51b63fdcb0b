-- What is kept is sound.
use Rattle.local_store.specs.inner.Kept.{rows_of}
use Rattle.local_store.proofs.SoundLemmas.{sound}
use Rattle.local_store.proofs.store.Store.is_at.Goals as goal

pub returns-then-row-len-clause-sound : goal.returns-then-row-len-clause-sound
returns-then-row-len-clause-sound c =
    let s = c.self.inside in
    sound s.admitted s.role s.clock (rows_of s.admitted s.keys s.cells.items s.marks.items) s.log c.args.self.now c.self.invariant.0 c.self.view_is

pub returns-else-row-len-clause-sound : goal.returns-else-row-len-clause-sound
returns-else-row-len-clause-sound c =
    let s = c.self.inside in
    sound s.admitted s.role s.clock (rows_of s.admitted s.keys s.cells.items s.marks.items) s.log c.args.self.now c.self.invariant.0 c.self.view_is
