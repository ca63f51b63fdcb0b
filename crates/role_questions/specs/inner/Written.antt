-- What was written of an answer.
use Rattle.std.specs.Prelude.{◌≡◌, ℕ, Bool, true, false, List, [], ◌∷◌, ◌++◌, codes}
use Rattle.std.specs.Prelude.{decimal, drop, length, map, take}
use Rattle.serde_json.specs.Data.{Data, Items, string}
use Rattle.serde_json.specs.View.{items_of}
use Rattle.serde_json.specs.Written.{compact_text, items_text}
use Rattle.json.specs.Print.{quoted}
use Rattle.bspl_types.specs.declared.expanded.Expanded.{Expanded}
use Rattle.bspl_types.specs.declared.protocol.Adornment.TheVariants.{In}
use Rattle.bspl_types.specs.declared.protocol.Carried.{Carried}
use Rattle.bspl_types.specs.Expansion.{message_name, message_of, param_name, role_name}
use Rattle.stamped_history.specs.Entries.{last_stamp}
use Rattle.local_store.specs.State.{StoreState}
use Rattle.role_questions.specs.declared.form.Form.{Form}
use Rattle.role_questions.specs.declared.form.KnownValue.{KnownValue}
use Rattle.role_questions.specs.declared.question.Question.{Question}
use Rattle.role_questions.specs.Answers.{AnswersAsked}

-- a right answer is at the end, but for its LF
pub record AddsAnswer (s : StoreState) (q : Question) (old new : List ℕ) : Type 0 where
  pub answer : Data
  pub answers : AnswersAsked s q answer
  pub added : new ≡ old ++ compact_text answer

-- the items of a list between two indices
abbrev pub between : {X : Type 0} → ℕ → ℕ → List X → List X
between from end list = drop from (take end list)

-- a known parameter, as one that is carried with its value
abbrev pub carried_as_known : KnownValue → Carried
carried_as_known k = record { param = k.param; adornment = In }

-- what comes after the items of a part of a list
abbrev pub of_text : ℕ → List ℕ
of_text count = codes ",\"of\":" ++ (decimal count ++ 125 ∷ [])

-- the first members of a status
abbrev pub counts_text : StoreState → List ℕ
counts_text s = codes "{\"status\":{\"clock\":" ++ (decimal (last_stamp s.entries) ++
    (codes ",\"events\":" ++ (decimal (length s.entries) ++
    (codes ",\"keys\":" ++ decimal (length s.keys)))))

-- its other members
abbrev pub names_text : StoreState → List ℕ
names_text s = codes ",\"protocol\":" ++ (quoted s.protocol.name ++
    (codes ",\"role\":" ++ (quoted (role_name s.protocol s.role) ++
    (codes ",\"version\":" ++ (decimal 1 ++ codes "}}")))))

-- the names of parameters, as items
abbrev pub name_items : Expanded → List ℕ → Items
name_items x params = items_of (map (λ p. string (param_name x p)) params)

-- what stands before the receiver of a form's message
abbrev pub sent_part : Bool → List ℕ
sent_part true = codes ",\"sent\":true,\"to\":"
sent_part false = codes ",\"sent\":false,\"to\":"

-- a form up to its values
abbrev pub form_head : Expanded → Form → List ℕ
form_head x f = codes "{\"message\":" ++ (quoted (message_name x f.message) ++
    (codes ",\"outs\":[" ++ (items_text false (name_items x f.outs) ++ (sent_part f.sent ++
    (quoted (role_name x (message_of x f.message).receiver) ++ codes ",\"values\":")))))
