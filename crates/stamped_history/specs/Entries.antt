-- The events and the clock of a stamped history.
use Rattle.std.specs.Prelude.{ℕ, ◌<◌, List, [], ◌∷◌, map, AllPairs}
use Rattle.bspl_types.specs.declared.event.Event.{Event}
use Rattle.stamped_history.specs.declared.entry.Entry.{Entry}

-- the events, in order
abbrev pub events_of : List Entry → List Event
events_of entries = map (λ e. e.event) entries

-- the last value of a clock
abbrev pub clock_limit : ℕ
clock_limit = 18446744073709551615

-- the stamp of the last entry, or 0 if there is none
abbrev pub last_stamp : List Entry → ℕ
last_stamp [] = 0
last_stamp (e ∷ []) = e.stamp
last_stamp (e ∷ (f ∷ rest)) = last_stamp (f ∷ rest)

-- each entry has a higher stamp than those before it
abbrev pub StampsRise : List Entry → Type 0
StampsRise entries = AllPairs (λ e f. e.stamp < f.stamp) entries
