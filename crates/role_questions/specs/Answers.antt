-- The answers to questions, as JSON and as text.
use Rattle.std.specs.Prelude.{◌≡◌, ℕ, List, [], ◌∷◌, ◌++◌, codes, drop, length, map, take}
use Rattle.std.specs.List.{zip}
use Rattle.serde_json.specs.Data.{Data, array, boolean, member, no_members, number, object, string}
use Rattle.serde_json.specs.Data.{unsigned}
use Rattle.serde_json.specs.View.{items_of}
use Rattle.serde_json.specs.Written.{compact_text}
use Rattle.bspl_types.specs.declared.envelope.Stamped.{Stamped}
use Rattle.bspl_types.specs.declared.event.Event.{Event}
use Rattle.bspl_types.specs.declared.event.Event.TheVariants.{Emit, Receive}
use Rattle.bspl_types.specs.declared.expanded.Expanded.{Expanded}
use Rattle.bspl_types.specs.declared.protocol.Adornment.TheVariants.{In}
use Rattle.bspl_types.specs.declared.protocol.Carried.{Carried}
use Rattle.bspl_types.specs.declared.value.Value.{Value}
use Rattle.bspl_types.specs.Expansion.{message_name, message_of, param_name, role_name}
use Rattle.bspl_types.specs.History.{instance_of}
use Rattle.stamped_history.specs.declared.entry.Entry.{Entry}
use Rattle.stamped_history.specs.Entries.{last_stamp}
use Rattle.local_store.specs.State.{StoreState, acts_of}
use Rattle.wire_form.specs.Reply.{message_data, only, put_values, value_data}
use Rattle.role_questions.specs.declared.form.Form.{Form}
use Rattle.role_questions.specs.declared.form.KnownValue.{KnownValue}
use Rattle.role_questions.specs.declared.question.Question.{Question}
use Rattle.role_questions.specs.declared.question.Question.TheVariants.{Enabled, History}
use Rattle.role_questions.specs.declared.question.Question.TheVariants.{Keys, Known, Status}
use Rattle.role_questions.specs.Forms.{AreForms}
use Rattle.role_questions.specs.Known.{IsKnowledge}

-- a number
abbrev pub count_data : ℕ → Data
count_data n = number (unsigned n)

-- what is known, as parameters that are carried with their values
abbrev pub known_pairs : List KnownValue → List (Carried × Value)
known_pairs list = map (λ k. (record { param = k.param; adornment = In }, k.value)) list

-- known values by the names of their parameters, in the order of names
abbrev pub values_data : Expanded → List KnownValue → Data
values_data x list = object (put_values x (known_pairs list) no_members)

-- a parameter with its value
abbrev pub key_value : ℕ × Value → KnownValue
key_value pair = record { param = pair.0; value = pair.1 }

-- the key parameters with the values of a key
abbrev pub key_values : Expanded → List Value → List KnownValue
key_values x key = map key_value (zip x.keys key)

-- the values of a key, in order
abbrev pub key_data : List Value → Data
key_data key = array (items_of (map value_data key))

-- the names of parameters
abbrev pub names_data : Expanded → List ℕ → Data
names_data x params = array (items_of (map (λ p. string (param_name x p)) params))

-- a form under a key: its values are those of its `in` parameters and of the key
abbrev pub form_data : Expanded → List Value → Form → Data
form_data x key f = object
    (member (codes "message") (string (message_name x f.message))
    (member (codes "outs") (names_data x f.outs)
    (member (codes "sent") (boolean f.sent)
    (member (codes "to") (string (role_name x (message_of x f.message).receiver))
    (member (codes "values") (values_data x (key_values x key ++ f.ins)) no_members)))))

-- the message of an entry, with the stamp that it has in the role's history
abbrev pub stamped_of : Entry → Stamped
stamped_of e = record { instance = instance_of e.event; stamp = e.stamp; number = e.number }

-- an event: what was sent and to whom, or what was received and from whom
abbrev pub event_data : Expanded → Event → Data → Data
event_data x (Emit i) sent = object
    (member (codes "sent") sent
    (member (codes "to") (string (role_name x (message_of x i.message).receiver)) no_members))
event_data x (Receive i) received = object
    (member (codes "from") (string (role_name x (message_of x i.message).sender))
    (member (codes "received") received no_members))

-- an entry of the history
abbrev pub entry_data : Expanded → Entry → Data
entry_data x e = event_data x e.event (message_data x (stamped_of e))

-- some items of a list from an index on
abbrev pub items_from : {X : Type 0} → ℕ → ℕ → List X → List X
items_from from most list = take most (drop from list)

-- these under a name, and of how many they are a part
abbrev pub part_data : List ℕ → List Data → ℕ → Data
part_data name items count = object
    (member name (array (items_of items))
    (member (codes "of") (count_data count) no_members))

-- how far the role is, and which one it is
abbrev pub status_members : StoreState → Data
status_members s = object
    (member (codes "clock") (count_data (last_stamp s.entries))
    (member (codes "events") (count_data (length s.entries))
    (member (codes "keys") (count_data (length s.keys))
    (member (codes "protocol") (string s.protocol.name)
    (member (codes "role") (string (role_name s.protocol s.role))
    (member (codes "version") (count_data 1) no_members))))))

-- the JSON answers the question
abbrev pub AnswersAsked : StoreState → Question → Data → Type 0
AnswersAsked s (Enabled key) d = (forms : List Form) × AreForms s key forms × (d ≡
    only (codes "enabled") (array (items_of (map (form_data s.protocol key) forms))))
AnswersAsked s (Known key) d = (list : List KnownValue) ×
    IsKnowledge s.protocol (acts_of s) key list ×
    (d ≡ only (codes "known") (values_data s.protocol list))
AnswersAsked s (Keys from most) d =
    d ≡ part_data (codes "keys") (map key_data (items_from from most s.keys)) (length s.keys)
AnswersAsked s (History from most) d = d ≡ part_data (codes "history")
    (map (entry_data s.protocol) (items_from from most s.entries)) (length s.entries)
AnswersAsked s Status d = d ≡ only (codes "status") (status_members s)

-- the line of a right answer: it has no blanks, and ends with LF
pub record IsAnswerText (s : StoreState) (q : Question) (text : List ℕ) : Type 0 where
  pub answer : Data
  pub answers : AnswersAsked s q answer
  pub written : text ≡ compact_text answer ++ 10 ∷ []
