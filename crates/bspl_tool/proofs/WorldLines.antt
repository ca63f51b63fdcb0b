-- The texts that report on a world claim nothing.
use Rattle.std.proofs.Common.{◌≡◌, ℕ, false, List, [], ◌∷◌, ◌++◌, codes, length, map, sum, Option, Some, None, refl, sym, subst}
use Rattle.std.specs.Fmt.{decimal}
use Rattle.std.specs.List.{AllZip, concat, count_by, enumerate_from, join_with_byte, list_any}
use Rattle.std.proofs.lemmas.Bool.{or_from}
use Rattle.agent_scripts.specs.Script.{Script}
use Rattle.bspl_types.specs.declared.event.Event.{Event}
use Rattle.bspl_types.specs.declared.expanded.Expanded.{Expanded}
use Rattle.bspl_types.specs.declared.protocol.Message.{Message}
use Rattle.bspl_types.specs.declared.value.Value.{Value}
use Rattle.bspl_types.specs.Expansion.{message_of, param_name}
use Rattle.bspl_types.specs.ValueSpelling.{value_spelling}
use Rattle.report.specs.Summary.{IsSummaryText, count_line, is_emission, is_reception}
use Rattle.report.specs.WorldText.{IsRowLine, IsWorldText, cell_field, message_line, receives, row_line, sends, world_line}
use Rattle.agent_commands.specs.declared.world_report.WorldReport.{WorldReport}
use Rattle.agent_commands.specs.declared.world_report.WorldReport.TheVariants.{Summary, Table}
use Rattle.agent_commands.specs.PlayedText.{ReportsOn}
use Rattle.bspl_tool.proofs.ClaimsNothing.{IsBlock, block_joined, claim_lines, claims, closed, line_avoids, message_lines, no_lines}
use Rattle.bspl_tool.proofs.EvidenceLines.{message_has_no_lf, message_is_field, param_has_no_lf}
use Rattle.bspl_tool.proofs.FieldBytes.{fields_are_block, joined_fields, value_has_no_lf}
use Rattle.bspl_tool.proofs.NameBytes.{other_words}
use Rattle.bspl_tool.proofs.Unbroken.{decimal_has_no_lf, has_lf, joined_has_none}

-- the first line
world_is_block : (script : Script) → IsBlock (world_line script)
world_is_block script =
    let keys = decimal (length script.keys) in
    fields_are_block (codes "world" ∷ keys ∷ []) (or_from (has_lf keys) false (decimal_has_no_lf (length script.keys)) refl) refl

-- the line of a message
message_is_block : (x : Expanded) (run : List Event) (m : ℕ) → IsBlock (message_line x run m)
message_is_block x run m =
    let sent = count_by (sends m) run in
    let received = count_by (receives m) run in
    let name = (message_of x m).name in
    let counts = decimal sent ∷ codes "received" ∷ decimal received ∷ [] in
    let body = join_with_byte 32 (codes "message" ∷ name ∷ codes "sent" ∷ counts) in
    let whole = joined_fields (codes "message" ∷ name ∷ codes "sent" ∷ counts) (or_from (has_lf name) _ (message_has_no_lf x m) (or_from (has_lf (decimal sent)) _ (decimal_has_no_lf sent) (or_from (has_lf (decimal received)) false (decimal_has_no_lf received) refl))) in record {
      nothing = record {
        protocol = line_avoids claim_lines body refl whole refl;
        messages = λ said field. line_avoids (message_lines said) body refl whole (other_words name said 115 (codes "ent" ++ 32 ∷ join_with_byte 32 counts) (codes "\n") (message_is_field x m).no_space field refl refl);
      };
      whole = closed body refl;
    }

-- those of all messages
messages_are_block : (x : Expanded) (run : List Event) (messages : List (ℕ × Message)) → IsBlock (concat (map (λ (m, _). message_line x run m) messages))
messages_are_block x run [] = no_lines
messages_are_block x run ((m, message) ∷ messages) = block_joined (message_is_block x run m) (messages_are_block x run messages)

-- the fields of a row
cells_have_no_lf : (x : Expanded) (cells : List (ℕ × Option Value)) → list_any has_lf (map (cell_field x) cells) ≡ false
cells_have_no_lf x [] = refl
cells_have_no_lf x ((p, None) ∷ cells) =
    or_from (has_lf (cell_field x (p, None))) _ (joined_has_none 10 (param_name x p) (codes "=-") (param_has_no_lf x p) refl) (cells_have_no_lf x cells)
cells_have_no_lf x ((p, Some v) ∷ cells) =
    let name = joined_has_none 10 (param_name x p) (codes "=") (param_has_no_lf x p) refl in
    or_from (has_lf (cell_field x (p, Some v))) _ (joined_has_none 10 (param_name x p ++ codes "=") (value_spelling v) name (value_has_no_lf v)) (cells_have_no_lf x cells)

-- the line of a workload number
row_is_block : (x : Expanded) (n : ℕ) (cells : List (Option Value)) → IsBlock (row_line x n cells)
row_is_block x n cells =
    let fields = map (cell_field x) (enumerate_from 0 cells) in
    fields_are_block (codes "row" ∷ decimal n ∷ fields) (or_from (has_lf (decimal n)) (list_any has_lf fields) (decimal_has_no_lf n) (cells_have_no_lf x (enumerate_from 0 cells))) refl

-- those of all workload keys
rows_are_block : (x : Expanded) (run : List Event) (keys : List (ℕ × List Value)) (rows : List (List ℕ)) → AllZip (IsRowLine x run) keys rows → IsBlock (concat rows)
rows_are_block x run [] [] each = no_lines
rows_are_block x run [] (row ∷ rows) each = absurd each
rows_are_block x run (key ∷ keys) [] each = absurd each
rows_are_block x run ((n, key) ∷ keys) (row ∷ rows) each =
    let one = each.0 in
    block_joined (subst IsBlock (sym one.2) (row_is_block x n one.0)) (rows_are_block x run keys rows each.1)

-- the text of a world claims nothing of the protocol
world_text_is_block : (x : Expanded) (script : Script) (run : List Event) (text : List ℕ) → IsWorldText x script run text → IsBlock text
world_text_is_block x script run text is =
    let messages = block_joined (world_is_block script) (messages_are_block x run (enumerate_from 0 x.messages)) in
    let rows = block_joined messages (rows_are_block x run (enumerate_from 1 script.keys) is.rows is.are_rows) in
    subst IsBlock (sym is.text_is) (block_joined rows (fields_are_block (codes "end" ∷ []) refl refl))

-- a line of a word and a number, if the word begins no line that claims something
pub count_is_block : (word : List ℕ) (n : ℕ) → has_lf word ≡ false → claims (count_line word n) ≡ false → IsBlock (count_line word n)
count_is_block word n bare other =
    fields_are_block (word ∷ decimal n ∷ []) (or_from (has_lf word) _ bare (or_from (has_lf (decimal n)) false (decimal_has_no_lf n) refl)) other

-- the text that sums up a world
summary_is_block : (x : Expanded) (script : Script) (run : List Event) (text : List ℕ) → IsSummaryText x script run text → IsBlock text
summary_is_block x script run text is =
    let keys = count_is_block (codes "keys") (length script.keys) refl refl in
    let sent = count_is_block (codes "sent") (count_by is_emission run) refl refl in
    let received = count_is_block (codes "received") (count_by is_reception run) refl refl in
    let bound = count_is_block (codes "bound") (sum is.known) refl refl in
    subst IsBlock (sym is.text_is) (block_joined (block_joined (block_joined keys sent) received) bound)

-- so it is with each report
pub report_is_block : (report : WorldReport) (x : Expanded) (script : Script) (run : List Event) (text : List ℕ) → ReportsOn report x script run text → IsBlock text
report_is_block Table x script run text is = world_text_is_block x script run text is
report_is_block Summary x script run text is = summary_is_block x script run text is
