-- A happening as event kinds: it has happened exactly if one of them occurs.
use Rattle.std.specs.Prelude.{ℕ, List, [], ◌∷◌, map}
use Rattle.std.specs.List.{filter}
use Rattle.bspl_types.specs.declared.expanded.Expanded.{Expanded}
use Rattle.bspl_types.specs.Expansion.{message_of}
use Rattle.clause_encoding.specs.Carriers.{binds, carriers}
use Rattle.clause_encoding.specs.Variables.{message_numbers, received, sent}
use Rattle.questions.specs.declared.question.Happening.{Happening}
use Rattle.questions.specs.declared.question.Happening.TheVariants as happenings

-- the emissions of the messages that adorn the parameter `in` or `out`, in order
abbrev pub binding_kinds : Expanded → ℕ → List ℕ
binding_kinds x p = map sent (filter (λ m. binds (message_of x m) p) (message_numbers x))

-- the kinds of the happening
abbrev pub kinds_of : Expanded → Happening → List ℕ
kinds_of x (happenings.Sent m) = sent m ∷ []
kinds_of x (happenings.Received m) = received m ∷ []
kinds_of x (happenings.Knows role p) = carriers x role p
kinds_of x (happenings.Bound p) = binding_kinds x p
