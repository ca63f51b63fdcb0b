-- Which parameters were passed.
use Rattle.std.proofs.Common.{◌≡◌, map, take}
use Rattle.role_questions.specs.inner.Written.{carried_as_known}
use Rattle.role_questions.proofs.value_text.carried_in.Given as goal

-- those so far
abbrev pub invariant-loop-known : goal.invariant-loop-known
invariant-loop-known l = l.carried ≡ map carried_as_known (take l.known-index l.list)
