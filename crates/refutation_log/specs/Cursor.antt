-- The entries of a log as they are lent one by one.
use Rattle.refutation_log.specs.declared.refutation.Entry.{Entry}
use Rattle.refutation_log.specs.declared.refutation.Entry.TheVariants as entry
use Rattle.refutation_log.specs.declared.log_cursor.EntryRef.{EntryRef}
use Rattle.refutation_log.specs.declared.log_cursor.EntryRef.TheVariants.{Step, Drop}

-- the entry that is lent
abbrev pub lent_entry : EntryRef → Entry
lent_entry (Step chain) = entry.Step chain.now
lent_entry (Drop numbers) = entry.Drop numbers.now
