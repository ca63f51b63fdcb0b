-- The causes of a text's refusal.
use Rattle.std.proofs.Common.{◌≡◌, ℕ, ◌+◌, List, length}
use Rattle.dimacs.specs.declared.refusal.Refusal.{Refusal}
use Rattle.dimacs.specs.declared.refusal.Refusal.TheVariants as refusals
use Rattle.dimacs.specs.Dimacs.{HasHeader, text_lines}
use Rattle.dimacs.specs.inner.Reading.{HasNoHeader, IsUnread}
use Rattle.dimacs.specs.Refusal.{IsCauseOf, IsUnreadable}
use Rattle.dimacs.proofs.FormulaLemmas.{bad_word, no_header}
use Rattle.dimacs.proofs.LineLemmas.{bad_line_stops, bad_words}

-- the text has no header
pub start_cause : (text : List ℕ) (refusal : Refusal) → HasNoHeader (text_lines text) refusal → IsUnreadable text refusal
start_cause text (refusals.Line line) none = (no_header text none.0, none.1)
start_cause text refusals.TooMany none = none
start_cause text refusals.NoMemory none = tt

-- a line after the header has a word of no clause
pub words_cause : (text : List ℕ) (vars count : ℕ) (after : List (List ℕ)) (from : ℕ) (refusal : Refusal) → HasHeader (text_lines text) vars count after → from + length after ≡ length (text_lines text) → IsUnread vars after from refusal → IsUnreadable text refusal
words_cause text vars count after from (refusals.Line line) header counted bad =
    (bad_word text vars count after header (bad_words vars after from line bad), bad_line_stops (text_lines text) vars count after from line header counted bad)
words_cause text vars count after from refusals.TooMany header counted bad = bad
words_cause text vars count after from refusals.NoMemory header counted bad = tt

-- nor is there a verdict on a text that is not read
pub unread_cause : (text : List ℕ) (budget : ℕ) (refusal : Refusal) → IsUnreadable text refusal → IsCauseOf text budget refusal
unread_cause text budget (refusals.Line line) unread = unread
unread_cause text budget refusals.TooMany unread = absurd unread
unread_cause text budget refusals.NoMemory unread = tt
