-- The parts at the index are those of the entry there.
use Rattle.std.specs.Prelude.{slice_index_or}
use Rattle.std.proofs.lemmas.Option.{slice_get-get_or}
use Rattle.local_store.specs.State.{StoreState}
use Rattle.stamped_history.specs.declared.entry.Entry.{Entry}
use Rattle.restart_run.proofs.EntryLemmas.{entry_is}
use Rattle.restart_run.proofs.entries.entry_at.Goals as goal

pub returns : goal.returns
returns c =
    let s : StoreState = c.args.store.now in
    let e : Entry = record { event = c.event-event.result.0; stamp = c.event-event.result.1; number = c.number.result } in
    entry_is s.entries c.args.index (slice_index_or s.entries c.args.index e) c.event-event.result c.number.result (slice_get-get_or s.entries c.args.index e c.requires) c.event-event.ensures c.number.ensures
