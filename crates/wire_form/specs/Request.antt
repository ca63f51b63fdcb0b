-- What a line asks for, as JSON.
use Rattle.std.specs.Prelude.{◌≡◌, ℕ, ◌<◌, ◌≤◌, ⊤, List, [], ◌∷◌, ◌++◌, codes, length, map, Some, IsUtf8}
use Rattle.serde_json.specs.Data.{Data, array, number, object, string, unsigned, Members, member, no_members}
use Rattle.serde_json.specs.Read.{read}
use Rattle.serde_json.specs.View.{items_of}
use Rattle.list_base.specs.Lines.{Line}

-- a name and a text
abbrev pub NamedField : Type 0
NamedField = List ℕ × List ℕ

-- to receive a message with a number, a stamp and values by name, or to emit a message under a key
-- with values for what its sender chooses
pub data Request : Type 0 where
  receive : (message : List ℕ) → (number stamp : ℕ) → (values : List NamedField) → Request
  emit : (key : List (List ℕ)) → (message : List ℕ) → (outs : List (List ℕ)) → Request

-- an object with these texts
abbrev pub fields_data : List NamedField → Members
fields_data [] = no_members
fields_data ((name, text) ∷ fields) = member name (string text) (fields_data fields)

-- a list of these texts
abbrev pub texts_data : List (List ℕ) → Data
texts_data texts = array (items_of (map string texts))

-- what is said of a message that was sent
abbrev pub sent_data : List ℕ → ℕ → ℕ → Members → Data
sent_data message count stamp values = object
    (member (codes "message") (string message)
    (member (codes "number") (number (unsigned count))
    (member (codes "stamp") (number (unsigned stamp))
    (member (codes "values") (object values) no_members))))

-- what is said of a message that is to be sent
abbrev pub attempt_data : List (List ℕ) → List ℕ → List (List ℕ) → Data
attempt_data key message outs = object
    (member (codes "key") (texts_data key)
    (member (codes "message") (string message)
    (member (codes "outs") (texts_data outs) no_members)))

-- the request as JSON
abbrev pub request_data : Request → Data
request_data (receive message count stamp values) =
    object
    (member (codes "receive") (sent_data message count stamp (fields_data values)) no_members)
request_data (emit key message outs) =
    object (member (codes "emit") (attempt_data key message outs) no_members)

-- a number of an event has 32 bits
abbrev pub IsNumbered : Request → Type 0
IsNumbered (receive message count stamp values) = count < 4294967296
IsNumbered (emit key message outs) = ⊤

-- the most bytes of a line before its LF
abbrev pub line_limit : ℕ
line_limit = 65536

-- the line asks for this: it is not too long, and JSON, in UTF-8, of the request
pub record Asks (line : Line) (request : Request) : Type 0 where
  pub body : List ℕ
  pub ended : line ≡ body ++ 10 ∷ []
  pub short : length body ≤ line_limit
  pub utf8 : IsUtf8 body
  pub reads : read body ≡ Some (request_data request)
  pub numbered : IsNumbered request
