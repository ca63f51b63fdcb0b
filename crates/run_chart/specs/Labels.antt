-- The label of an event in a chart, and its ring.
use Rattle.std.specs.Prelude.{ℕ, ◌+◌, nat_lt, if◌then◌else◌, List, [], ◌∷◌, ◌++◌, take, ◌==◌}
use Rattle.std.specs.Prelude.{Bool, false, ◌||◌}
use Rattle.std.specs.List.{flat_map, list_any}
use Rattle.bspl_types.specs.declared.event.Event.{Event}
use Rattle.bspl_types.specs.declared.event.Event.TheVariants.{Emit, Receive}
use Rattle.bspl_types.specs.declared.expanded.Expanded.{Expanded}
use Rattle.bspl_types.specs.declared.protocol.Carried.{Carried}
use Rattle.bspl_types.specs.declared.value.Value.{Value}
use Rattle.bspl_types.specs.Expansion.{message_name, message_of, role_name}
use Rattle.bspl_types.specs.History.{instance_of, role_of}
use Rattle.html.specs.Fragment.{Fragment, Number, Tag, fitted}
use Rattle.run_chart.specs.declared.finding.Finding.{Finding}
use Rattle.run_chart.specs.declared.finding.Finding.TheVariants.{Bad, Clash, Open, Plain}
use Rattle.run_chart.specs.declared.wording.TheConstants as wording
use Rattle.run_chart.specs.Drawing.{circle}
use Rattle.run_chart.specs.Knowledge.{field, labelled}
use Rattle.run_chart.specs.Place.{column, row}
use Rattle.run_chart.specs.Strokes.{is_reception_of}
use Rattle.run_chart.specs.Words.{cut}

-- the role at the other end of the event's message
abbrev pub other_role : Expanded → Event → ℕ
other_role x (Emit i) = (message_of x i.message).receiver
other_role x (Receive i) = (message_of x i.message).sender

-- the event at the index is one of the two that clash, or may not follow those before it
abbrev pub is_ringed : Finding → ℕ → Bool
is_ringed (Clash param first second) index = index + 1 == first || index + 1 == second
is_ringed (Open param) index = false
is_ringed (Bad event) index = index + 1 == event
is_ringed Plain index = false

-- its ring
abbrev pub ring : ℕ → ℕ → Bool → List Fragment
ring role index ringed = if ringed then circle wording.RING.now role index else []

-- the lifelines of two roles have another one between them
abbrev pub is_far : ℕ → ℕ → Bool
is_far role other = nat_lt (role + 1) other || nat_lt (other + 1) role

-- before the name of the role at the other end
abbrev pub direction : Event → List ℕ
direction (Emit i) = wording.TO.now
direction (Receive i) = wording.FROM.now

-- that role, if its lifeline is far, since the arrow then passes the dots of others
abbrev pub far_role : Expanded → Event → List ℕ
far_role x event =
    if is_far (role_of x event) (other_role x event)
    then direction event ++ role_name x (other_role x event) else []

-- the name of the event's message, and that role
abbrev pub label_head : Expanded → Event → List ℕ
label_head x event = message_name x (instance_of event).message ++ far_role x event

-- these, and the fields of these parameters
abbrev pub label_words : Expanded → List (Carried × Value) → Event → List ℕ
label_words x shown event =
    label_head x event ++ flat_map (λ (c, v). 32 ∷ field x c.param v) shown

-- how many bytes there is room for between the lifelines of two roles
abbrev pub label_room : ℕ → ℕ → ℕ
label_room role other = if is_far role other then 44 else 28

-- beside the lifeline of a role, on the side of another role
abbrev pub side : ℕ → ℕ → List ℕ
side role other =
    if nat_lt role other then wording.RIGHT_SIDE.now else wording.LEFT_SIDE.now

-- above the arrow of an emission, below that of a reception
abbrev pub text_height : Event → List ℕ
text_height (Emit i) = wording.ABOVE.now
text_height (Receive i) = wording.BELOW.now

-- the label: the number of the event from 1, and its words
abbrev pub label : Expanded → List (Carried × Value) → ℕ → Event → List Fragment
label x shown index event =
    fitted wording.LABEL.now (Number (column (role_of x event)) ∷ Number (row index) ∷
    Tag (side (role_of x event) (other_role x event)) ∷ Tag (text_height event) ∷
    Number (index + 1) ∷
    cut (label_room (role_of x event) (other_role x event)) (label_words x shown event))

-- what is said of an emission without reception: a run goes on after its first bad event
abbrev pub missing_word : Finding → List ℕ
missing_word (Clash param first second) = wording.NOT_RECEIVED.now
missing_word (Open param) = wording.NOT_RECEIVED.now
missing_word (Bad event) = wording.NOT_YET.now
missing_word Plain = wording.NOT_RECEIVED.now

-- its place
abbrev pub not_received : ℕ → ℕ → ℕ → List ℕ → List Fragment
not_received sender receiver index said =
    fitted wording.MISSING_LABEL.now
    (Number (column sender) ∷ Number (row index) ∷ Tag (side sender receiver) ∷ Tag said ∷ [])

-- it is said of each emission that the run does not receive
abbrev pub missing : Expanded → List Event → List ℕ → ℕ → Event → List Fragment
missing x run said index (Emit i) =
    if list_any (is_reception_of i) run then []
    else not_received (message_of x i.message).sender (message_of x i.message).receiver index said
missing x run said index (Receive i) = []

-- the ring, the label and that
abbrev pub words_at : Expanded → List Event → Finding → ℕ × Event → List Fragment
words_at x run finding (index, event) =
    ring (role_of x event) index (is_ringed finding index) ++
    label x (labelled x run (take index run) event) index event ++
    missing x run (missing_word finding) index event
