-- The text of a run: a head, a line for each event, and `end`.
use Rattle.std.specs.Prelude.{◌≡◌, ℕ, List, [], ◌∷◌, ◌++◌, codes, map, slice_index_or}
use Rattle.std.specs.List.{All, flat_map, join_with_byte}
use Rattle.bspl_types.specs.declared.event.Event.{Event}
use Rattle.bspl_types.specs.declared.event.Event.TheVariants.{Emit, Receive}
use Rattle.bspl_types.specs.declared.event.Instance.{Instance}
use Rattle.bspl_types.specs.declared.expanded.Expanded.{Expanded}
use Rattle.bspl_types.specs.declared.protocol.Carried.{Carried}
use Rattle.bspl_types.specs.declared.protocol.ParamInfo.{ParamInfo}
use Rattle.bspl_types.specs.declared.value.Value.{Value}
use Rattle.bspl_types.specs.Expansion.{message_of}
pub use Rattle.bspl_types.specs.Expansion.{no_param}
use Rattle.bspl_types.specs.History.{IsRun, instance_of}
use Rattle.bspl_types.specs.Instance.{Fits, pairs}
use Rattle.bspl_types.specs.Value.{IsValue}
use Rattle.bspl_types.specs.ValueSpelling.{value_spelling}
use Rattle.list_base.specs.Lines.{line_of, end_line}

-- the field of a parameter and its value, as `item=7`
abbrev pub value_field : List ParamInfo → Carried × Value → List ℕ
value_field params (c, v) =
    (slice_index_or params c.param no_param).name ++ codes "=" ++ value_spelling v

-- the message's name, and a field for each parameter adorned `in` or `out`
abbrev pub instance_fields : Expanded → Instance → List (List ℕ)
instance_fields x i = (message_of x i.message).name ∷ map (value_field x.params) (pairs x i)

-- the word of an event
abbrev pub act_word : Event → List ℕ
act_word (Emit i) = codes "send"
act_word (Receive i) = codes "receive"

-- the line of an event without its LF: its word and the fields of its instance, one space apart
abbrev pub event_body : Expanded → Event → List ℕ
event_body x event = join_with_byte 32 (act_word event ∷ instance_fields x (instance_of event))

-- the line of an event: its word, and the fields of its instance
abbrev pub event_line : Expanded → Event → List ℕ
event_line x event = line_of (act_word event ∷ instance_fields x (instance_of event))

-- the first line: the version is 1
abbrev pub head_line : List ℕ
head_line = line_of (codes "run" ∷ codes "1" ∷ [])

-- the text of a run
abbrev pub run_text : Expanded → List Event → List ℕ
run_text x run = head_line ++ flat_map (event_line x) run ++ end_line

-- the instance fits, and each of its values is a number of 64 bits or a text of at most 32 bytes
pub record IsFitting (x : Expanded) (i : Instance) : Type 0 where
  pub fits : Fits x i
  pub values : All IsValue i.values

-- each value of each event is a number of 64 bits or a text of at most 32 bytes
abbrev pub HaveValues : List Event → Type 0
HaveValues run = All (λ event. All IsValue (instance_of event).values) run

-- the text is that of the run, whose events fit the protocol and have such values
pub record IsRunText (x : Expanded) (bytes : List ℕ) (run : List Event) : Type 0 where
  pub fits : IsRun x run
  pub values : HaveValues run
  pub text : bytes ≡ run_text x run
