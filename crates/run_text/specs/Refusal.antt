-- Which line of a text is the first bad one.
use Rattle.std.specs.Prelude.{◌≡◌, ◌≢◌, ℕ, ◌+◌, ◌≤◌, List, [], ◌∷◌, ◌++◌, length, ◌⊎◌, Result, Err}
use Rattle.bspl_types.specs.declared.event.Event.{Event}
use Rattle.bspl_types.specs.declared.expanded.Expanded.{Expanded}
use Rattle.bspl_types.specs.Admission.{IsAdmitted}
use Rattle.bspl_types.specs.History.{instance_of}
use Rattle.list_base.specs.Lines.{Line, lines_of, HasNoEnd, end_line}
use Rattle.run_text.specs.declared.refusal.RunRefusal.{RunRefusal}
use Rattle.run_text.specs.declared.refusal.RunRefusal.TheVariants.{Form, NoMemory}
use Rattle.run_text.specs.RunText.{IsFitting, IsRunText, event_line, head_line}

-- the line is that of an event that fits
abbrev pub IsEventLine : Expanded → Line → Type 0
IsEventLine x line =
    (event : Event) × IsFitting x (instance_of event) × (line ≡ event_line x event)

-- the line has the form that is wanted after these: first the head, then events, `end`, nothing
abbrev pub HasRunForm : Expanded → List Line → Line → Type 0
HasRunForm x [] line = line ≡ head_line
HasRunForm x (head ∷ others) line = HasNoEnd others × (IsEventLine x line ⊎ (line ≡ end_line))

-- each line has the form that is wanted after those before it
abbrev pub AreRunLines : Expanded → List Line → Type 0
AreRunLines x lines =
    (before after : List Line) (line : Line) → lines ≡ before ++ line ∷ after →
    HasRunForm x before line

-- after right lines comes a line of another form, or none although `end` is missing
abbrev pub IsOutOfForm : Expanded → List Line → List Line → Type 0
IsOutOfForm x before [] = HasNoEnd before
IsOutOfForm x before (line ∷ after) = ¬ HasRunForm x before line

-- line n of the text, counted from 1, comes after right lines and is bad
pub record IsFirstOutOfForm (x : Expanded) (text : List ℕ) (n : ℕ) : Type 0 where
  pub before : List Line
  pub after : List Line
  pub lines : lines_of text ≡ before ++ after
  pub right : AreRunLines x before
  pub bad : IsOutOfForm x before after
  pub number : n ≡ length before + 1

-- the refusal names the first bad line
abbrev pub IsRefusedRun : Expanded → List ℕ → RunRefusal → Type 0
IsRefusedRun x text (Form line) = IsFirstOutOfForm x text line
IsRefusedRun x text NoMemory = Unit {0}

-- the result is this answer, unless memory ran out
abbrev pub AnswersRun : Result (List Event) RunRefusal → Result (List Event) RunRefusal → Type 0
AnswersRun result answer = (result ≡ answer) ⊎ (result ≡ Err NoMemory)

-- a text is that of one run of an admitted protocol
abbrev pub TextHasOneRun : Type 0
TextHasOneRun =
    (x : Expanded) (text : List ℕ) (run other : List Event) → IsAdmitted x →
    IsRunText x text run → IsRunText x text other → run ≡ other

-- it is refused for one line
abbrev pub TextHasOneBadLine : Type 0
TextHasOneBadLine =
    (x : Expanded) (text : List ℕ) (refusal other : RunRefusal) → refusal ≢ NoMemory →
    other ≢ NoMemory → IsRefusedRun x text refusal → IsRefusedRun x text other → refusal ≡ other

-- and not both
abbrev pub RunIsNotRefused : Type 0
RunIsNotRefused =
    (x : Expanded) (text : List ℕ) (run : List Event) (refusal : RunRefusal) →
    refusal ≢ NoMemory → IsRunText x text run → ¬ IsRefusedRun x text refusal

-- a line is that of one event of an admitted protocol
abbrev pub LineHasOneEvent : Type 0
LineHasOneEvent =
    (x : Expanded) (event other : Event) → IsAdmitted x → IsFitting x (instance_of event) →
    IsFitting x (instance_of other) → event_line x event ≡ event_line x other → event ≡ other

-- a run has no more events than its text has bytes
abbrev pub EventsAreFewerThanBytes : Type 0
EventsAreFewerThanBytes =
    (x : Expanded) (text : List ℕ) (run : List Event) → IsRunText x text run →
    length run ≤ length text
