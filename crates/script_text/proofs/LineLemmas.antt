-- The lines of a text: the first one, and those after it.
use Rattle.std.proofs.Common.{◌≡◌, ℕ, ◌+◌, ◌-◌, ◌<◌, ◌≤◌, List, [], ◌∷◌, length, take, drop, refl, sym, ap, subst, ◌∙◌, arith, length-drop}
use Rattle.std.specs.List.{slice_split, position_or_len}
use Rattle.std.proofs.Math.Seq.{take-length}
use Rattle.std.proofs.lemmas.List.Splits.{slice_split_first, slice_split_none, length-slice_split}
use Rattle.std.proofs.lemmas.List.Sums.{fails_before_first}
use Rattle.agent_scripts.specs.Lines.{ended_lines, script_lines, without_return}
use Rattle.script_text.specs.inner.LineEnd.{is_line_end}

-- a text without an LF is one line
pub one_line : (text : List ℕ) → position_or_len is_line_end text ≡ length text → script_lines text ≡ text ∷ []
one_line text nowhere =
    let parts : slice_split is_line_end text ≡ text ∷ [] = slice_split_none is_line_end text (λ k d before. fails_before_first is_line_end text k d (omega (arith, before, nowhere))) in
    ap ended_lines parts

-- a line that others follow lost its end
ended : (line : List ℕ) (lines : List (List ℕ)) → 0 < length lines → ended_lines (line ∷ lines) ≡ without_return line ∷ ended_lines lines
ended line [] some = absurd (omega (arith, some))
ended line (next ∷ lines) some = refl

-- a text with an LF is a line and a text
pub two_lines : (text : List ℕ) (end : ℕ) → end ≡ position_or_len is_line_end text → end ≤ length text → (end ≡ length text → ⊥) → script_lines text ≡ without_return (take end text) ∷ script_lines (take (length text - (end + 1)) (drop (end + 1) text))
two_lines text end is_first within inside =
    let rest = drop (end + 1) text in
    let long : length text - (end + 1) ≡ length rest = sym (length-drop (end + 1) text) in
    let whole : take (length text - (end + 1)) rest ≡ rest = rw long (take-length rest) in
    let below : position_or_len is_line_end text < length text = omega (arith, is_first, within, inside) in
    let parts : slice_split is_line_end text ≡ take end text ∷ slice_split is_line_end rest =
    subst (λ at. slice_split is_line_end text ≡ take at text ∷ slice_split is_line_end (drop (at + 1) text)) (sym is_first) (slice_split_first is_line_end text 0 below) in
    let some : 0 < length (slice_split is_line_end rest) = rw (length-slice_split is_line_end rest) (omega arith) in
    rw whole (ap ended_lines parts ∙ ended (take end text) (slice_split is_line_end rest) some)
