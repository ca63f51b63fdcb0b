-- What is left to write of the forms.
use Rattle.std.proofs.Common.{◌≡◌, ◌++◌, drop, false, map}
use Rattle.serde_json.specs.View.{items_of}
use Rattle.serde_json.specs.Written.{items_text}
use Rattle.role_questions.specs.Answers.{form_data}
use Rattle.role_questions.proofs.form_text.push_forms.Given as goal

-- with what is left it is all of it
abbrev pub invariant-loop-form : goal.invariant-loop-form
invariant-loop-form l = l.text ++ items_text l.later (items_of (map (form_data l.x l.key) (drop l.form-index l.forms))) ≡ l.fn.text ++ items_text false (items_of (map (form_data l.x l.key) l.forms))
