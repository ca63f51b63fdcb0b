-- The replies to lines, as JSON and as text.
use Rattle.std.specs.Prelude.{ℕ, List, [], ◌∷◌, ◌++◌, codes}
use Rattle.serde_json.specs.Data.{Data, object, string, Members, member, no_members, put}
use Rattle.serde_json.specs.Written.{compact_text}
use Rattle.bspl_types.specs.declared.envelope.Stamped.{Stamped}
use Rattle.bspl_types.specs.declared.expanded.Expanded.{Expanded}
use Rattle.bspl_types.specs.declared.protocol.Carried.{Carried}
use Rattle.bspl_types.specs.declared.value.Value.{Value}
use Rattle.bspl_types.specs.Expansion.{message_name, param_name}
use Rattle.bspl_types.specs.Instance.{pairs}
use Rattle.bspl_types.specs.ValueSpelling.{value_spelling}
use Rattle.local_store.specs.declared.receipt.Receipt.{Receipt}
use Rattle.local_store.specs.declared.receipt.Receipt.TheVariants.{Fresh, Repeat, Differs}
use Rattle.role_knowledge.specs.declared.block.Block.{Block}
use Rattle.role_knowledge.specs.declared.block.Block.TheVariants.{Missing, Bound}
use Rattle.wire_form.specs.declared.reply.Refusal.{Refusal}
use Rattle.wire_form.specs.declared.reply.Refusal.TheVariants.{F1, F2, F3, F4}
use Rattle.wire_form.specs.declared.reply.Reply.{Reply}
use Rattle.wire_form.specs.declared.reply.Reply.TheVariants.{Blocked, Received, Refused, Sent}
use Rattle.wire_form.specs.Request.{sent_data}

-- an object with one member
abbrev pub only : List ℕ → Data → Data
only name d = object (member name d no_members)

-- the spelling of a value
abbrev pub value_data : Value → Data
value_data v = string (value_spelling v)

-- the values with the names of their parameters, put among these members in the order of names
abbrev pub put_values : Expanded → List (Carried × Value) → Members → Members
put_values x [] members = members
put_values x ((c, v) ∷ pairs) members =
    put_values x pairs (put (param_name x c.param) (value_data v) members)

-- the code of a refusal
abbrev pub refusal_code : Refusal → List ℕ
refusal_code F1 = codes "F1"
refusal_code F2 = codes "F2"
refusal_code F3 = codes "F3"
refusal_code F4 = codes "F4"

-- how a message was received
abbrev pub receipt_data : Expanded → Receipt → Data
receipt_data x Fresh = only (codes "receipt") (string (codes "fresh"))
receipt_data x Repeat = only (codes "receipt") (string (codes "repeat"))
receipt_data x (Differs param kept arrived) = object
    (member (codes "arrived") (value_data arrived)
    (member (codes "kept") (value_data kept)
    (member (codes "param") (string (param_name x param))
    (member (codes "receipt") (string (codes "differs")) no_members))))

-- why a message was not emitted
abbrev pub block_data : Expanded → Block → Data
block_data x (Missing param) = object
    (member (codes "blocked") (string (codes "missing"))
    (member (codes "param") (string (param_name x param)) no_members))
block_data x (Bound param kept) = object
    (member (codes "blocked") (string (codes "bound"))
    (member (codes "kept") (value_data kept)
    (member (codes "param") (string (param_name x param)) no_members)))

-- a message, as its receiver is to be asked to receive it
abbrev pub message_data : Expanded → Stamped → Data
message_data x m = sent_data (message_name x m.instance.message) m.number m.stamp
    (put_values x (pairs x m.instance) no_members)

-- the reply as JSON
abbrev pub reply_data : Expanded → Reply → Data
reply_data x (Refused refusal) = only (codes "refused") (string (refusal_code refusal))
reply_data x (Received receipt) = receipt_data x receipt
reply_data x (Sent m) = only (codes "sent") (message_data x m)
reply_data x (Blocked block) = block_data x block

-- the line of a reply: it has no blanks, and ends with LF
abbrev pub reply_text : Expanded → Reply → List ℕ
reply_text x reply = compact_text (reply_data x reply) ++ 10 ∷ []
