-- What a line puts to a live role, as JSON.
use Rattle.std.specs.Prelude.{◌≡◌, ℕ, ◌<◌, ◌≤◌, ⊤, List, [], ◌∷◌, ◌++◌, codes, length, Some, IsUtf8}
use Rattle.serde_json.specs.Data.{Data, member, no_members, number, object, unsigned}
use Rattle.serde_json.specs.Read.{read}
use Rattle.list_base.specs.Lines.{Line}
use Rattle.wire_form.specs.Reply.{only}
use Rattle.wire_form.specs.Request.{line_limit, texts_data}

-- a question with its key as texts, or about so many items of a list from an index on
pub data TextQuestion : Type 0 where
  ask_enabled : (key : List (List ℕ)) → TextQuestion
  ask_known : (key : List (List ℕ)) → TextQuestion
  ask_keys : (from most : ℕ) → TextQuestion
  ask_history : (from most : ℕ) → TextQuestion
  ask_status : TextQuestion

-- the member of a question about a key
abbrev pub key_members : List (List ℕ) → Data
key_members key = only (codes "key") (texts_data key)

-- the members of a question about a part of a list
abbrev pub part_members : ℕ → ℕ → Data
part_members from most = object
    (member (codes "from") (number (unsigned from))
    (member (codes "most") (number (unsigned most)) no_members))

-- the question as JSON
abbrev pub question_data : TextQuestion → Data
question_data (ask_enabled key) = only (codes "enabled") (key_members key)
question_data (ask_known key) = only (codes "known") (key_members key)
question_data (ask_keys from most) = only (codes "keys") (part_members from most)
question_data (ask_history from most) = only (codes "history") (part_members from most)
question_data ask_status = only (codes "status") (object no_members)

-- the most items that a question is about
abbrev pub most_limit : ℕ
most_limit = 1024

-- the index has 32 bits, and there are not too many items
abbrev pub IsPart : ℕ → ℕ → Type 0
IsPart from most = (from < 4294967296) × (most ≤ most_limit)

-- a part of a list that is asked for is one
abbrev pub AsksPart : TextQuestion → Type 0
AsksPart (ask_enabled key) = ⊤
AsksPart (ask_known key) = ⊤
AsksPart (ask_keys from most) = IsPart from most
AsksPart (ask_history from most) = IsPart from most
AsksPart ask_status = ⊤

-- the line puts this: it is not too long, and JSON, in UTF-8, of the question
pub record Puts (line : Line) (asked : TextQuestion) : Type 0 where
  pub body : List ℕ
  pub ended : line ≡ body ++ 10 ∷ []
  pub short : length body ≤ line_limit
  pub utf8 : IsUtf8 body
  pub reads : read body ≡ Some (question_data asked)
  pub part : AsksPart asked
