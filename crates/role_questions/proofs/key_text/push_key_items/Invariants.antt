-- What is left to write of the keys.
use Rattle.std.proofs.Common.{◌≡◌, ◌++◌, false, map}
use Rattle.serde_json.specs.View.{items_of}
use Rattle.serde_json.specs.Written.{items_text}
use Rattle.role_questions.specs.Answers.{key_data}
use Rattle.role_questions.specs.inner.Written.{between}
use Rattle.role_questions.proofs.key_text.push_key_items.Given as goal

-- with what is left it is all of it
abbrev pub invariant-loop-row : goal.invariant-loop-row
invariant-loop-row l = l.text ++ items_text l.later (items_of (map key_data (between l.row l.end l.fn.store.keys))) ≡ l.fn.text ++ items_text false (items_of (map key_data (between l.from l.end l.fn.store.keys)))
