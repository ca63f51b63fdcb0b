-- The lines of a head and of events that fit are right.
use Rattle.std.proofs.Common.{◌≡◌, ◌≢◌, ◌⊎◌, ℕ, List, [], ◌∷◌, ◌++◌, get_or, drop, map, codes, refl, ap, ◌∙◌, inl, inr}
use Rattle.std.specs.List.{flat_map, AllByRecursion}
use Rattle.std.proofs.lemmas.Bool.{eqb-false}
use Rattle.std.proofs.lemmas.List.{append_assoc, append_cancel_right}
use Rattle.std.proofs.lemmas.List.Elements.{All-nil, All-cons, recursion_from_All}
use Rattle.bspl_types.specs.declared.event.Event.{Event}
use Rattle.bspl_types.specs.declared.expanded.Expanded.{Expanded}
use Rattle.bspl_types.specs.History.{IsRun, instance_of}
use Rattle.list_base.specs.Lines.{Line, lines_of, HasNoEnd, end_line}
use Rattle.run_text.specs.RunText.{HaveValues, IsFitting, event_line, head_line}
use Rattle.run_text.specs.Refusal.{AreRunLines, HasRunForm, IsEventLine}
use Rattle.run_text.specs.inner.LineFields.{event_body}
use Rattle.run_text.proofs.EventLemmas.{body_no_end, event_lacks}
use Rattle.list_base.proofs.Separators.{lines-then}

-- each event fits
abbrev pub AreFitting : Expanded → List Event → Type 0
AreFitting x run = AllByRecursion (λ event. IsFitting x (instance_of event)) run

-- the events of a run fit, with their values
pub fitting_run : (x : Expanded) (run : List Event) → IsRun x run → HaveValues run → AreFitting x run
fitting_run x run fits values = recursion_from_All (λ event. IsFitting x (instance_of event)) run (λ k d within. record { fits = fits k d within; values = values k d within })

-- no line of an event is `end`
pub event_no_end : (x : Expanded) (event : Event) → event_line x event ≢ end_line
event_no_end x event is = body_no_end x event (append_cancel_right (event_body x event) (codes "end") (codes "\n") is)

-- nor is the head
pub head_no_end : head_line ≢ end_line
head_no_end is = eqb-false 114 101 refl (ap (λ (list : List ℕ). get_or list 0 0) is)

-- ---- the lines of a text

-- the line of an event, and the lines after it
lines-event : (x : Expanded) (event : Event) (rest : List ℕ) → IsFitting x (instance_of event) → lines_of (event_line x event ++ rest) ≡ event_line x event ∷ lines_of rest
lines-event x event rest fitting = ap lines_of (append_assoc (event_body x event) (codes "\n") rest) ∙ lines-then (event_body x event) rest (event_lacks x event fitting)

-- the lines of events, and those after them
lines-events : (x : Expanded) (run : List Event) (rest : List ℕ) → AreFitting x run → lines_of (flat_map (event_line x) run ++ rest) ≡ map (event_line x) run ++ lines_of rest
lines-events x [] rest fitting = refl
lines-events x (event ∷ run) rest fitting =
    ap lines_of (append_assoc (event_line x event) (flat_map (event_line x) run) rest) ∙ lines-event x event (flat_map (event_line x) run ++ rest) fitting.0
    ∙ ap (λ (lines : List Line). event_line x event ∷ lines) (lines-events x run rest fitting.1)

-- the lines of a run without its end
abbrev pub front_lines : Expanded → List Event → List Line
front_lines x run = head_line ∷ map (event_line x) run

-- the lines of a text that begins as that of a run
pub lines-front : (x : Expanded) (run : List Event) (rest : List ℕ) → AreFitting x run → lines_of (head_line ++ (flat_map (event_line x) run ++ rest)) ≡ front_lines x run ++ lines_of rest
lines-front x run rest fitting = ap (λ (lines : List Line). head_line ∷ lines) (lines-events x run rest fitting)

-- ---- they are right

-- none of the lines of events is `end`
pub events_no_end : (x : Expanded) (run : List Event) → HasNoEnd (map (event_line x) run)
events_no_end x [] = All-nil (λ line. line ≢ end_line)
events_no_end x (event ∷ run) = All-cons (λ line. line ≢ end_line) (event_line x event) (map (event_line x) run) (event_no_end x event) (events_no_end x run)

-- a line that stands among events, or is the end after them
pub record IsAmong (x : Expanded) (before : List Line) (line : Line) : Type 0 where
  pub unended : HasNoEnd before
  pub is : IsEventLine x line ⊎ (line ≡ end_line)

-- one event more before it
after_event : (x : Expanded) (event : Event) (before : List Line) (line other : Line) → event_line x event ≡ other → IsAmong x before line → IsAmong x (other ∷ before) line
after_event x event before line other e among = record {
  unended = All-cons (λ l. l ≢ end_line) other before (λ is_end. event_no_end x event (e ∙ is_end)) among.unended;
  is = among.is;
}

-- each line after the head is such
among : (x : Expanded) (run : List Event) (before after : List Line) (line : Line) → AreFitting x run → map (event_line x) run ++ end_line ∷ [] ≡ before ++ line ∷ after → IsAmong x before line
among x [] [] after line fitting e = record { unended = All-nil (λ l. l ≢ end_line); is = inr (cc) }
among x [] (other ∷ []) after line fitting e = absurd (cc)
among x [] (other ∷ next ∷ before) after line fitting e = absurd (cc)
among x (event ∷ run) [] after line fitting e = record { unended = All-nil (λ l. l ≢ end_line); is = inl (event, fitting.0, cc) }
among x (event ∷ run) (other ∷ before) after line fitting e = after_event x event before line other (cc) (among x run before after line fitting.1 (ap (drop 1) e))

-- the lines of a whole run are right
pub whole_right : (x : Expanded) (run : List Event) → AreFitting x run → AreRunLines x (front_lines x run ++ end_line ∷ [])
whole_right x run fitting = λ before after line e. go before after line e
  where
    go : (before after : List Line) (line : Line) → front_lines x run ++ end_line ∷ [] ≡ before ++ line ∷ after → HasRunForm x before line
    go [] after line e = cc
    go (head ∷ before) after line e = let is = among x run before after line fitting (ap (drop 1) e) in (is.unended, is.is)

-- the first lines of right lines are right
right_front : (x : Expanded) (lines more : List Line) → AreRunLines x (lines ++ more) → AreRunLines x lines
right_front x lines more right = λ before after line e. right before (after ++ more) line (ap (λ (ls : List Line). ls ++ more) e ∙ append_assoc before (line ∷ after) more)

-- so the lines of a run without its end are right
pub front_right : (x : Expanded) (run : List Event) → AreFitting x run → AreRunLines x (front_lines x run)
front_right x run fitting = right_front x (front_lines x run) (end_line ∷ []) (whole_right x run fitting)
