-- How often each message of a run was sent and received.
use Rattle.std.specs.Prelude.{◌≡◌, ℕ, ◌<◌, List, length, slice_index_or}
use Rattle.std.specs.List.{count_by}
use Rattle.bspl_types.specs.declared.event.Event.{Event}
use Rattle.bspl_types.specs.Limits.{message_limit}
use Rattle.report.specs.declared.count.Count.{Count}
use Rattle.report.specs.WorldText.{receives, sends}

-- a message that was not counted
abbrev pub no_count : Count
no_count = record { sent = 0; received = 0 }

-- the count of message m
abbrev pub count_of_message : List Count → ℕ → Count
count_of_message counts m = slice_index_or counts m no_count

-- how often message m was sent and received in the run
abbrev pub count_in : List Event → ℕ → Count
count_in run m = record { sent = count_by (sends m) run; received = count_by (receives m) run }

-- there is a count for each message that a protocol can have, as the run has it
pub record AreMessageCounts (run : List Event) (counts : List Count) : Type 0 where
  pub as_many : length counts ≡ message_limit
  pub each : (m : ℕ) → m < message_limit → count_of_message counts m ≡ count_in run m
