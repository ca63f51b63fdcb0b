-- What is left to write of the names.
use Rattle.std.proofs.Common.{◌≡◌, ◌++◌, drop, false}
use Rattle.serde_json.specs.Written.{items_text}
use Rattle.role_questions.specs.inner.Written.{name_items}
use Rattle.role_questions.proofs.form_text.push_names.Given as goal

-- with what is left it is all of it
abbrev pub invariant-loop-param : goal.invariant-loop-param
invariant-loop-param l = l.text ++ items_text l.later (name_items l.x (drop l.param-index l.params)) ≡ l.fn.text ++ items_text false (name_items l.x l.params)
