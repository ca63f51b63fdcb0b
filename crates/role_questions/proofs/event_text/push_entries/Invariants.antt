-- What is left to write of the entries.
use Rattle.std.proofs.Common.{◌≡◌, ◌++◌, false, map}
use Rattle.serde_json.specs.View.{items_of}
use Rattle.serde_json.specs.Written.{items_text}
use Rattle.role_questions.specs.Answers.{entry_data}
use Rattle.role_questions.specs.inner.Written.{between}
use Rattle.role_questions.proofs.event_text.push_entries.Given as goal

-- with what is left it is all of it
abbrev pub invariant-loop-index : goal.invariant-loop-index
invariant-loop-index l = l.text ++ items_text l.later (items_of (map (entry_data l.fn.store.protocol) (between l.index l.end l.fn.store.entries))) ≡ l.fn.text ++ items_text false (items_of (map (entry_data l.fn.store.protocol) (between l.from l.end l.fn.store.entries)))
