-- Which values were passed.
use Rattle.std.proofs.Common.{◌≡◌, map, take}
use Rattle.role_questions.proofs.value_text.values_in.Given as goal

-- those so far
abbrev pub invariant-loop-known : goal.invariant-loop-known
invariant-loop-known l = l.values ≡ map (λ k. k.value) (take l.known-index l.list)
