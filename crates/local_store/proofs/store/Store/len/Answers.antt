-- What is kept is consistent.
use Rattle.std.proofs.Common.{◌+◌, ◌≤◌, length, subst, arith}
use Rattle.local_store.specs.inner.Kept.{rows_of}
use Rattle.local_store.specs.inner.Acts.{entries_in, entry_in}
use Rattle.std.proofs.lemmas.List.{length-map}
use Rattle.local_store.proofs.SoundLemmas.{consistent}
use Rattle.local_store.proofs.store.Store.len.Goals as goal

pub returns-clause-consistent : goal.returns-clause-consistent
returns-clause-consistent c =
    let s = c.self.inside in
    let rows = rows_of s.admitted s.keys s.cells.items s.marks.items in
    let few : length (entries_in s.admitted rows s.log.acts) + s.log.spare ≤ 4294967295 = omega (arith, length-map s.log.acts (entry_in s.admitted rows), c.len.ensures.few) in
    consistent s.admitted s.role s.clock rows s.log c.args.self.now c.self.invariant.0 c.self.view_is
    (subst (λ t. length t.entries + t.spare ≤ 4294967295) c.self.view_is few)
