-- The table of a run's events: what each is, what it adds to what its role knows, and what the role
-- knew before it.
use Rattle.std.specs.Prelude.{ℕ, ◌+◌, if◌then◌else◌, List, [], ◌∷◌, ◌++◌, take}
use Rattle.std.specs.Prelude.{Option, None, Some}
use Rattle.std.specs.List.{enumerate_from, flat_map}
use Rattle.bspl_types.specs.declared.event.Event.{Event}
use Rattle.bspl_types.specs.declared.event.Event.TheVariants.{Emit, Receive}
use Rattle.bspl_types.specs.declared.expanded.Expanded.{Expanded}
use Rattle.bspl_types.specs.declared.protocol.Carried.{Carried}
use Rattle.bspl_types.specs.declared.value.Value.{Value}
use Rattle.bspl_types.specs.Expansion.{message_of}
use Rattle.html.specs.declared.wording.TheConstants.{TABLE_END}
use Rattle.html.specs.Fragment.{Fragment, Number, Tag, Words, fitted}
use Rattle.html.specs.Tables.{role_words}
use Rattle.run_chart.specs.declared.finding.Finding.{Finding}
use Rattle.run_chart.specs.declared.finding.Finding.TheVariants.{Bad, Clash, Open, Plain}
use Rattle.run_chart.specs.declared.wording.TheConstants as wording
use Rattle.run_chart.specs.Knowledge.{field, news, value_before}
use Rattle.run_chart.specs.Labels.{is_ringed}

-- a parameter and its value
abbrev pub field_item : Expanded → ℕ → Value → List Fragment
field_item x p v = fitted wording.FIELD.now (Words (field x p v) ∷ [])

-- each pair of a parameter and its value
abbrev pub fields : Expanded → List (Carried × Value) → List Fragment
fields x pairs = flat_map (λ (c, v). field_item x c.param v) pairs

-- a parameter, if it has a value
abbrev pub known_item : Expanded → ℕ → Option Value → List Fragment
known_item x p None = []
known_item x p (Some v) = field_item x p v

-- the cell of what the event's role knew before it, parameter by parameter
abbrev pub known_cell : Expanded → List Event → Event → List Fragment
known_cell x before event =
    fitted wording.KNOWN.now [] ++
    flat_map (λ (p, info). known_item x p (value_before x before event p))
    (enumerate_from 0 x.params) ++
    fitted wording.EVENT_END.now []

-- what a ring means
abbrev pub ring_word : Finding → List ℕ
ring_word (Clash param first second) = wording.CLASH.now
ring_word (Open param) = []
ring_word (Bad event) = wording.NOT_ALLOWED.now
ring_word Plain = []

-- it is said of the event at the index if that is ringed
abbrev pub ring_words : Finding → ℕ → List ℕ
ring_words finding index = if is_ringed finding index then ring_word finding else []

-- the number of an event, the event in words, and what is said of it
abbrev pub event_start : Expanded → ℕ → Event → List ℕ → List Fragment
event_start x index (Emit i) said =
    fitted wording.EMISSION.now (Number (index + 1) ∷
    role_words x (message_of x i.message).sender ∷ Words (message_of x i.message).name ∷
    role_words x (message_of x i.message).receiver ∷ Tag said ∷ [])
event_start x index (Receive i) said =
    fitted wording.RECEPTION.now (Number (index + 1) ∷
    role_words x (message_of x i.message).receiver ∷ Words (message_of x i.message).name ∷
    role_words x (message_of x i.message).sender ∷ Tag said ∷ [])

-- the row of an event: these, what it adds to what its role knows, and what its role knew before it
abbrev pub event_row : Expanded → List Event → Finding → ℕ × Event → List Fragment
event_row x run finding (index, event) =
    event_start x index event (ring_words finding index) ++
    fields x (news x (take index run) event) ++ known_cell x (take index run) event

-- the table
abbrev pub event_table : Expanded → List Event → Finding → List Fragment
event_table x run finding =
    fitted wording.EVENTS.now [] ++ flat_map (event_row x run finding) (enumerate_from 0 run) ++
    fitted TABLE_END.now []
