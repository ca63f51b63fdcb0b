-- The rows of a world: for each workload key what the roles know of each parameter.
use Rattle.std.specs.Prelude.{◌≡◌, ℕ, List, ◌++◌, Option}
use Rattle.std.specs.List.{AllZip, enumerate_from, flat_map}
use Rattle.bspl_types.specs.declared.event.Event.{Event}
use Rattle.bspl_types.specs.declared.expanded.Expanded.{Expanded}
use Rattle.bspl_types.specs.declared.value.Value.{Value}
use Rattle.adapter.specs.Desk.{DeskState}
use Rattle.stamped_history.specs.Explained.{AreLocal}
use Rattle.world_run.specs.World.{AreDesksOf, HasHistories, histories_of}
use Rattle.report.specs.WorldText.{AreCells}

-- the run has the histories of these desks of the protocol, each of which is local
pub record IsRunOfWorld (x : Expanded) (desks : List DeskState) (run : List Event) : Type 0 where
  pub are_desks : AreDesksOf x desks
  pub local : AreLocal x (histories_of desks)
  pub histories : HasHistories x desks run

-- what is written of a workload number, and of what the roles know under its key
abbrev pub RowForm : Type 0
RowForm = ℕ × List (Option Value) → List ℕ

-- the text grew by a row in this form for each of the keys, numbered from 1
pub record AppendsRows (form : RowForm) (x : Expanded) (run : List Event)
    (keys : List (List Value)) (before after : List ℕ) : Type 0 where
  pub rows : List (List (Option Value))
  pub are_rows : AllZip (AreCells x run) keys rows
  pub text : after ≡ before ++ flat_map form (enumerate_from 1 rows)
