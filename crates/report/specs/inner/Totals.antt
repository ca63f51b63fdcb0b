-- How all events are counted, and how many parameters are known.
use Rattle.std.specs.Prelude.{◌≡◌, ℕ, ◌+◌, ◌^◌, ◌<◌, List, Option, is_some}
use Rattle.std.specs.Prelude.{sum}
use Rattle.std.specs.List.{AllZip, count_by}
use Rattle.bspl_types.specs.declared.event.Event.{Event}
use Rattle.bspl_types.specs.declared.expanded.Expanded.{Expanded}
use Rattle.bspl_types.specs.declared.value.Value.{Value}
use Rattle.report.specs.declared.count.Count.{Count}
use Rattle.report.specs.Summary.{KnowsAsMany, is_emission, is_reception}
use Rattle.report.specs.WorldText.{AreFirstCells}

-- the count grew by the events
pub record GrowsBy (events : List Event) (old new : Count) : Type 0 where
  pub sent : new.sent ≡ old.sent + count_by is_emission events
  pub received : new.received ≡ old.received + count_by is_reception events

-- so many events more can be counted
pub record HasRoom (events : ℕ) (count : Count) : Type 0 where
  pub sent : count.sent + events < 2 ^ 64
  pub received : count.received + events < 2 ^ 64

-- this many of the first parameters are known to some role under the key
pub record KnowsFirst (x : Expanded) (run : List Event) (key : List Value) (params n : ℕ)
    : Type 0 where
  pub cells : List (Option Value)
  pub are : AreFirstCells x run key params cells
  pub many : n ≡ count_by is_some cells

-- this many are known under the keys together
pub record KnowsUnder (x : Expanded) (run : List Event) (keys : List (List Value)) (n : ℕ)
    : Type 0 where
  pub known : List ℕ
  pub each : AllZip (KnowsAsMany x run) keys known
  pub total : n ≡ sum known
