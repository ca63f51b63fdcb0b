-- Which histories can be merged.
use Rattle.std.specs.Prelude.{◌≤◌, List, length}
use Rattle.stamped_history.specs.declared.entry.Entry.{Entry}
use Rattle.stamped_history.specs.Entries.{StampsRise}

-- its stamps rise, and its entries have numbers of 32 bits
pub record IsReadable (entries : List Entry) : Type 0 where
  pub rises : StampsRise entries
  pub few : length entries ≤ 4294967295
