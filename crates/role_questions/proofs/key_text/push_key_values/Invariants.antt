-- What is left to write of the values.
use Rattle.std.proofs.Common.{◌≡◌, ◌++◌, drop, false, map}
use Rattle.serde_json.specs.View.{items_of}
use Rattle.serde_json.specs.Written.{items_text}
use Rattle.wire_form.specs.Reply.{value_data}
use Rattle.role_questions.proofs.key_text.push_key_values.Given as goal

-- with what is left it is all of it
abbrev pub invariant-loop-value : goal.invariant-loop-value
invariant-loop-value l = l.text ++ items_text l.later (items_of (map value_data (drop l.value-index l.values))) ≡ l.fn.text ++ items_text false (items_of (map value_data l.values))
