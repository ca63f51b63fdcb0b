-- What was found in a JSON value of what a line asks for.
use Rattle.std.specs.Prelude.{ℕ, List, map, codes, String, string_bytes}
use Rattle.std.specs.declared.alloc.Global.{Global}
use Rattle.serde_json.specs.Data.{Data, Items, Members, array, member, no_members, object, string}
use Rattle.serde_json.specs.declared.value.Value.{Value}
use Rattle.wire_form.specs.declared.any_order.Found.{Found}
use Rattle.wire_form.specs.declared.any_order.Found.TheVariants.{Emission, Receipt}
use Rattle.wire_form.specs.Request.{NamedField, Request, emit, receive, sent_data}
use Rattle.wire_form.specs.Texts.{text_in, texts_in}

-- the members that tell of a message that was sent
pub record SentForm : Type 0 where
  pub message : List ℕ
  pub number : ℕ
  pub stamp : ℕ
  pub values : Members

-- as JSON
abbrev pub sent_form : SentForm → Data
sent_form f = sent_data f.message f.number f.stamp f.values

-- the members that tell of a message that is to be sent
pub record AttemptForm : Type 0 where
  pub key : Items
  pub message : List ℕ
  pub outs : Items

-- as JSON
abbrev pub attempt_form : AttemptForm → Data
attempt_form f = object
    (member (codes "key") (array f.key)
    (member (codes "message") (string f.message)
    (member (codes "outs") (array f.outs) no_members)))

-- the members of an object as fields
abbrev pub fields_in : List (String Global × Value) → List NamedField
fields_in entries = map (λ e. (string_bytes e.0, text_in e.1)) entries

-- the request that was found
abbrev pub request_in : Found → Request
request_in (Receipt r) = receive r.message.now r.number r.stamp (fields_in r.values.now.entries)
request_in (Emission e) = emit (texts_in e.key.now.items) e.message.now (texts_in e.outs.now.items)
