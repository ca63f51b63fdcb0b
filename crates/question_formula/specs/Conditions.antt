-- A question as a condition on which kinds occur, and on which first does so before which.
use Rattle.std.specs.Prelude.{ℕ, not, ◌==◌, if◌then◌else◌, List, [], ◌∷◌, map}
use Rattle.std.specs.List.{filter, list_any}
use Rattle.bspl_types.specs.declared.expanded.Expanded.{Expanded}
use Rattle.bspl_types.specs.declared.protocol.Adornment.{Adornment}
use Rattle.bspl_types.specs.declared.protocol.Adornment.TheVariants.{In, Out, Nil}
use Rattle.bspl_types.specs.Expansion.{message_of}
use Rattle.circuit_clauses.specs.Condition.{Condition, Literal, Both, Either, Always, Never, denied}
use Rattle.clause_core.specs.Literal.{negated}
use Rattle.clause_encoding.specs.declared.variables.Variables.{Variables}
use Rattle.clause_encoding.specs.Carriers.{carriers}
use Rattle.clause_encoding.specs.Variables.{message_numbers, occurs, received, sent, stands_before}
use Rattle.questions.specs.declared.question.Question.{Question}
use Rattle.questions.specs.declared.question.Question.TheVariants as asks
use Rattle.question_formula.specs.Happenings.{kinds_of}

-- all of the conditions
abbrev pub all_of : List Condition → Condition
all_of [] = Always
all_of (c ∷ []) = c
all_of (c ∷ d ∷ others) = Both c (all_of (d ∷ others))

-- one of them
abbrev pub some_of : List Condition → Condition
some_of [] = Never
some_of (c ∷ []) = c
some_of (c ∷ d ∷ others) = Either c (some_of (d ∷ others))

-- one of the kinds occurs
abbrev pub some_occurs : List ℕ → Condition
some_occurs kinds = some_of (map (λ kind. Literal (occurs kind)) kinds)

-- the kind occurs, and first does so before each of the others
abbrev pub occurs_before : Variables → List ℕ → ℕ → Condition
occurs_before vars others kind =
    all_of (Literal (occurs kind) ∷ map (λ other. Literal (stands_before vars kind other)) others)

-- one of the kinds does so; no kind occurs before itself
abbrev pub some_before : Variables → List ℕ → List ℕ → Condition
some_before vars kinds others =
    some_of (map (occurs_before vars others)
    (filter (λ kind. not (list_any (λ other. other == kind) others)) kinds))

-- what an adornment demands of a sender, given the condition that it knows the parameter
abbrev pub demanded : Adornment → Condition → Condition
demanded In known = known
demanded Out known = denied known
demanded Nil known = denied known

-- the sender of the message can send it now; its own emission too makes a parameter known to it
abbrev pub sendable : Expanded → ℕ → Condition
sendable x m =
    all_of
    (map (λ c. demanded c.adornment (some_occurs (carriers x (message_of x m).sender c.param)))
    (message_of x m).carried)

-- the message has arrived if it was sent
abbrev pub arrives_if_sent : ℕ → Condition
arrives_if_sent m = Either (Literal (negated (occurs (sent m)))) (Literal (occurs (received m)))

-- and, unless it is excused, it was sent or cannot be
abbrev pub rests_at : Expanded → List ℕ → ℕ → Condition
rests_at x excused m =
    if list_any (λ other. other == m) excused then arrives_if_sent m
    else Both (arrives_if_sent m) (Either (Literal (occurs (sent m))) (denied (sendable x m)))

-- the answer to the question is yes
abbrev pub asked : Expanded → Variables → Question → Condition
asked x vars (asks.Happened h) = some_occurs (kinds_of x h)
asked x vars (asks.Before one other) = some_before vars (kinds_of x one) (kinds_of x other)
asked x vars (asks.Can m) = sendable x m
asked x vars (asks.Rest excused) = all_of (map (rests_at x excused) (message_numbers x))
asked x vars (asks.Not' _ q) = denied (asked x vars q)
asked x vars (asks.And' _ q _ r) = Both (asked x vars q) (asked x vars r)
asked x vars (asks.Or' _ q _ r) = Either (asked x vars q) (asked x vars r)
