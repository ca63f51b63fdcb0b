-- What is left to write of the members.
use Rattle.std.proofs.Common.{◌≡◌, ◌++◌, drop, false}
use Rattle.serde_json.specs.Written.{members_text}
use Rattle.wire_form.specs.inner.NamedValues.{named_members}
use Rattle.wire_form.proofs.named_values.push_members.Given as goal

-- with what is left it is all of it
abbrev pub invariant-loop-named : goal.invariant-loop-named
invariant-loop-named l = l.text ++ members_text l.later (named_members (drop l.named-index l.sorted)) ≡ l.fn.text ++ members_text false (named_members l.sorted)
