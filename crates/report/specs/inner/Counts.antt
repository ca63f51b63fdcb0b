-- How events are counted by their messages, and the lines of the counts.
use Rattle.std.specs.Prelude.{◌≡◌, ℕ, ◌+◌, ◌^◌, ◌<◌, List, [], ◌∷◌, codes, length, map, replicate}
use Rattle.std.specs.Prelude.{take}
use Rattle.std.specs.Fmt.{decimal}
use Rattle.std.specs.List.{concat, count_by, enumerate_from, flat_map}
use Rattle.bspl_types.specs.declared.event.Event.{Event}
use Rattle.bspl_types.specs.declared.expanded.Expanded.{Expanded}
use Rattle.bspl_types.specs.Expansion.{message_of}
use Rattle.bspl_types.specs.Limits.{message_limit}
use Rattle.adapter.specs.Desk.{DeskState}
use Rattle.local_store.specs.State.{acts_of}
use Rattle.refutation_log.specs.LogText.{line_of}
use Rattle.report.specs.declared.count.Count.{Count}
use Rattle.report.specs.WorldCounts.{count_of_message, no_count}
use Rattle.report.specs.WorldText.{receives, sends}

-- the events of all desks
abbrev pub acts_of_all : List DeskState → List Event
acts_of_all desks = flat_map (λ d. acts_of d.store) desks

-- no message was counted
abbrev pub no_counts : List Count
no_counts = replicate message_limit no_count

-- each count grew by the events of its message
pub record GrowBy (events : List Event) (old new : List Count) : Type 0 where
  pub as_many : length new ≡ length old
  pub sent : (m : ℕ) → m < length old →
      (count_of_message new m).sent ≡ (count_of_message old m).sent + count_by (sends m) events
  pub received : (m : ℕ) → m < length old →
      (count_of_message new m).received
      ≡ (count_of_message old m).received + count_by (receives m) events

-- so many events more can be counted
pub record HaveRoom (events : ℕ) (counts : List Count) : Type 0 where
  pub sent : (m : ℕ) → (count_of_message counts m).sent + events < 2 ^ 64
  pub received : (m : ℕ) → (count_of_message counts m).received + events < 2 ^ 64

-- the line of message m with its counts
abbrev pub counted_line : Expanded → ℕ → Count → List ℕ
counted_line x m count = line_of
    (codes "message" ∷ (message_of x m).name
    ∷ codes "sent" ∷ decimal count.sent
    ∷ codes "received" ∷ decimal count.received ∷ [])

-- the lines of the first messages
abbrev pub counted_lines : Expanded → List Count → ℕ → List ℕ
counted_lines x counts messages =
    concat (map (λ (m, _). counted_line x m (count_of_message counts m))
    (enumerate_from 0 (take messages x.messages)))
