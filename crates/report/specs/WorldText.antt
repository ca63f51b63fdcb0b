-- The text of a world: how often each message was sent and received, and under each workload key
-- what the roles know.
use Rattle.std.specs.Prelude.{◌≡◌, ℕ, Bool, false, ◌==◌, List, ◌∷◌, [], ◌++◌, codes, length, map}
use Rattle.std.specs.Prelude.{slice_get, Option, None, Some}
use Rattle.std.specs.Fmt.{decimal}
use Rattle.std.specs.List.{AllZip, concat, count_by, enumerate_from}
use Rattle.bspl_types.specs.declared.event.Event.{Event}
use Rattle.bspl_types.specs.declared.event.Event.TheVariants.{Emit, Receive}
use Rattle.bspl_types.specs.declared.expanded.Expanded.{Expanded}
use Rattle.bspl_types.specs.declared.value.Value.{Value}
use Rattle.bspl_types.specs.Expansion.{message_of, param_name}
use Rattle.bspl_types.specs.ValueSpelling.{value_spelling}
use Rattle.agent_scripts.specs.Script.{Script}
use Rattle.stamped_history.specs.TableValue.{IsTableValue}
use Rattle.refutation_log.specs.LogText.{end_line, line_of}

-- an emission, and a reception, of message m
abbrev pub sends : ℕ → Event → Bool
sends m (Emit i) = i.message == m
sends m (Receive i) = false

abbrev pub receives : ℕ → Event → Bool
receives m (Emit i) = false
receives m (Receive i) = i.message == m

-- the first line: how many workload keys there are
abbrev pub world_line : Script → List ℕ
world_line script = line_of (codes "world" ∷ decimal (length script.keys) ∷ [])

-- the line of message m: how often it was sent and received
abbrev pub message_line : Expanded → List Event → ℕ → List ℕ
message_line x run m = line_of
    (codes "message" ∷ (message_of x m).name
    ∷ codes "sent" ∷ decimal (count_by (sends m) run)
    ∷ codes "received" ∷ decimal (count_by (receives m) run) ∷ [])

-- the lines of all messages, in order
abbrev pub message_lines : Expanded → List Event → List ℕ
message_lines x run =
    concat (map (λ (m, _). message_line x run m) (enumerate_from 0 x.messages))

-- what the roles know of the first parameters under the key, in the order of the parameters
pub record AreFirstCells (x : Expanded) (run : List Event) (key : List Value) (params : ℕ)
    (cells : List (Option Value)) : Type 0 where
  pub count : length cells ≡ params
  pub each : (p : ℕ) (cell : Option Value) → slice_get cells p ≡ Some cell →
      IsTableValue x run key p cell

-- what they know of all parameters
abbrev pub AreCells : Expanded → List Event → List Value → List (Option Value) → Type 0
AreCells x run key cells = AreFirstCells x run key (length x.params) cells

-- the field of a parameter and its value, or of one that no role knows
abbrev pub cell_field : Expanded → ℕ × Option Value → List ℕ
cell_field x (p, None) = param_name x p ++ codes "=-"
cell_field x (p, Some v) = param_name x p ++ codes "=" ++ value_spelling v

-- the line of a workload number
abbrev pub row_line : Expanded → ℕ → List (Option Value) → List ℕ
row_line x n cells = line_of
    (codes "row" ∷ decimal n ∷ map (cell_field x) (enumerate_from 0 cells))

-- that of a row
abbrev pub row_form : Expanded → ℕ × List (Option Value) → List ℕ
row_form x (n, cells) = row_line x n cells

-- the line says what the roles know under the key of that number
abbrev pub IsRowLine : Expanded → List Event → ℕ × List Value → List ℕ → Type 0
IsRowLine x run (n, key) line =
    (cells : List (Option Value)) × AreCells x run key cells × (line ≡ row_line x n cells)

-- the text reports on the run: each message, and a row for each workload key
pub record IsWorldText (x : Expanded) (script : Script) (run : List Event) (text : List ℕ)
    : Type 0 where
  pub rows : List (List ℕ)
  pub are_rows : AllZip (IsRowLine x run) (enumerate_from 1 script.keys) rows
  pub text_is : text ≡ world_line script ++ message_lines x run ++ concat rows ++ end_line
