-- The section of a page on a world that agents have played.
use Rattle.std.specs.Prelude.{◌≡◌, ℕ, List, [], ◌∷◌, ◌++◌, length, Option, None, Some}
use Rattle.std.specs.List.{AllZip, enumerate_from, flat_map}
use Rattle.bspl_types.specs.declared.event.Event.{Event}
use Rattle.bspl_types.specs.declared.expanded.Expanded.{Expanded}
use Rattle.bspl_types.specs.declared.protocol.Message.{Message}
use Rattle.bspl_types.specs.declared.protocol.ParamInfo.{ParamInfo}
use Rattle.bspl_types.specs.declared.value.Value.{Value}
use Rattle.bspl_types.specs.ValueSpelling.{value_spelling}
use Rattle.agent_scripts.specs.Script.{Script}
use Rattle.html.specs.Fragment.{Fragment, Number, Tag, Words, fitted, as_html}
use Rattle.html.specs.declared.wording.TheConstants.{TABLE_END}
use Rattle.page_sections.specs.declared.wording.TheConstants.{COUNTS_ROW, COUNTS_START, HEADS_END}
use Rattle.page_sections.specs.declared.wording.TheConstants.{NO_VALUE, NOT_PLAYED, ROW_END, VALUE}
use Rattle.page_sections.specs.declared.wording.TheConstants.{VALUES_HEAD, VALUES_ROW, VALUES_START}
use Rattle.page_sections.specs.declared.wording.TheConstants.{WORLD}
use Rattle.report.specs.declared.count.Count.{Count}
use Rattle.report.specs.WorldCounts.{count_in}
use Rattle.report.specs.WorldRows.{RowForm}
use Rattle.report.specs.WorldText.{AreCells}

-- the row of a message: how often it was sent and received
abbrev pub count_row : Message → Count → List Fragment
count_row message count =
    fitted COUNTS_ROW.now (Words message.name ∷ Number count.sent ∷ Number count.received ∷ [])

-- that of message m of a run
abbrev pub count_item : List Event → ℕ × Message → List Fragment
count_item run (m, message) = count_row message (count_in run m)

-- the table of counts, with a row for each message
abbrev pub count_table : Expanded → List Event → List Fragment
count_table x run =
    Tag COUNTS_START.now ∷ flat_map (count_item run) (enumerate_from 0 x.messages) ++
    Tag TABLE_END.now ∷ []

-- the head of a parameter's column
abbrev pub param_head : ParamInfo → List Fragment
param_head info = fitted VALUES_HEAD.now (Words info.name ∷ [])

-- the caption, and the heads of the columns
abbrev pub value_heads : Expanded → List Fragment
value_heads x =
    Tag VALUES_START.now ∷ flat_map param_head x.params ++ Tag HEADS_END.now ∷ []

-- the cell of a value, or of a parameter that no role knows
abbrev pub value_cell : Option Value → List Fragment
value_cell None = Tag NO_VALUE.now ∷ []
value_cell (Some v) = fitted VALUE.now (Words (value_spelling v) ∷ [])

-- the row of a workload number, with what the roles know under its key
abbrev pub value_row : ℕ × List (Option Value) → List Fragment
value_row (n, cells) =
    fitted VALUES_ROW.now (Number n ∷ []) ++ flat_map value_cell cells ++ Tag ROW_END.now ∷ []

-- that row as it is written
abbrev pub row_tags : RowForm
row_tags row = as_html (value_row row)

-- the table of values, with these rows numbered from 1
abbrev pub value_table : Expanded → List (List (Option Value)) → List Fragment
value_table x rows =
    value_heads x ++ flat_map value_row (enumerate_from 1 rows) ++ Tag TABLE_END.now ∷ []

-- the section of a world whose stores together hold the run: there is a row for each workload key
pub record ShowsWorld (x : Expanded) (script : Script) (run : List Event) (shown : List Fragment)
    : Type 0 where
  pub rows : List (List (Option Value))
  pub are_rows : AllZip (AreCells x run) script.keys rows
  pub section : shown ≡
      fitted WORLD.now (Number (length script.keys) ∷ []) ++ count_table x run ++
      value_table x rows

-- the section of agents that do not play
abbrev pub unplayed_section : List Fragment
unplayed_section = Tag NOT_PLAYED.now ∷ []

-- the section of the world is written after a text
pub record AppendsWorld (x : Expanded) (script : Script) (run : List Event) (old new : List ℕ)
    : Type 0 where
  pub shown : List Fragment
  pub shows : ShowsWorld x script run shown
  pub text : new ≡ old ++ as_html shown
