-- How many events a text can have.
use Rattle.std.proofs.Common.{ℕ, ◌≤◌, List, [], ◌∷◌, ◌++◌, length, subst, sym, arith, length-append, codes}
use Rattle.std.specs.List.{flat_map}
use Rattle.bspl_types.specs.declared.event.Event.{Event}
use Rattle.bspl_types.specs.declared.expanded.Expanded.{Expanded}
use Rattle.list_base.specs.Lines.{end_line}
use Rattle.run_text.specs.RunText.{IsRunText, event_line, head_line}
use Rattle.run_text.specs.inner.LineFields.{event_body}

-- the line of each event has its LF
events_in_lines : (x : Expanded) (run : List Event) → length run ≤ length (flat_map (event_line x) run)
events_in_lines x [] = omega arith
events_in_lines x (event ∷ run) =
    omega (arith, events_in_lines x run, length-append (event_line x event) (flat_map (event_line x) run), length-append (event_body x event) (codes "\n"))

-- what stands in the middle is no longer than the whole
middle_within : (n : ℕ) (xs ys zs : List ℕ) → n ≤ length ys → n ≤ length (xs ++ ys ++ zs)
middle_within n xs ys zs within = omega (arith, length-append (xs ++ ys) zs, length-append xs ys)

-- and the text has the lines of all events
pub events_in_text : (x : Expanded) (text : List ℕ) (run : List Event) → IsRunText x text run → length run ≤ length text
events_in_text x text run is =
    subst (λ bytes. length run ≤ length bytes) (sym is.text) (middle_within (length run) head_line (flat_map (event_line x) run) end_line (events_in_lines x run))
