-- The families of clauses that hold of what first occurs in an enactment, whatever is asked of it.
use Rattle.std.specs.Prelude.{ℕ, not, ◌==◌, List, [], ◌∷◌, ◌++◌, map}
use Rattle.std.specs.List.{filter, flat_map}
use Rattle.bspl_types.specs.declared.expanded.Expanded.{Expanded}
use Rattle.bspl_types.specs.Expansion.{message_of}
use Rattle.clause_core.specs.declared.literal.Lit.{Lit}
use Rattle.clause_core.specs.Literal.{negated}
use Rattle.clause_core.specs.Written.{Written}
use Rattle.clause_encoding.specs.declared.variables.Variables.{Variables}
use Rattle.clause_encoding.specs.Carriers.{fresh_parameters, in_parameters, sender_carriers}
use Rattle.clause_encoding.specs.Variables.{kinds_following, message_numbers, occurs, received, sent, stands_before}

-- of three kinds: i before j and j before k is i before k, and so from behind
abbrev pub order_of_three : Variables → ℕ → ℕ → ℕ → List Written
order_of_three vars i j k =
    (negated (stands_before vars i j) ∷ negated (stands_before vars j k) ∷
    stands_before vars i k ∷ []) ∷
    (stands_before vars i j ∷ stands_before vars j k ∷
    negated (stands_before vars i k) ∷ []) ∷ []

-- order: one stands before the other, in lexicographic order of i < j < k
abbrev pub order_clauses : Variables → List Written
order_clauses vars =
    flat_map (λ i. flat_map (λ j. flat_map (order_of_three vars i j) (kinds_following vars j))
    (kinds_following vars i)) (kinds_following vars 0)

-- occurrence: a kind that occurs stands before one that does not
abbrev pub occurrence_clauses : Variables → List Written
occurrence_clauses vars =
    flat_map (λ i. map (λ j. negated (occurs i) ∷ occurs j ∷ stands_before vars i j ∷ [])
    (filter (λ j. not (j == i)) (kinds_following vars 0))) (kinds_following vars 0)

-- delivery: what is received was sent before
abbrev pub delivery_clauses : Expanded → Variables → List Written
delivery_clauses x vars =
    map (λ m. negated (occurs (received m)) ∷ stands_before vars (sent m) (received m) ∷ [])
    (message_numbers x)

-- a message is sent after some kind at its sender that makes the parameter known
abbrev pub premise_clause : Expanded → Variables → ℕ → ℕ → Written
premise_clause x vars m p =
    negated (occurs (sent m)) ∷ map (λ c. stands_before vars c (sent m)) (sender_carriers x m p)

-- premises: each `in` parameter of what is sent was known before
abbrev pub premise_clauses : Expanded → Variables → List Written
premise_clauses x vars =
    flat_map (λ m. map (premise_clause x vars m) (in_parameters (message_of x m)))
    (message_numbers x)

-- a message is sent after no kind at its sender that makes the parameter known
abbrev pub fresh_clauses_of : Expanded → Variables → ℕ → ℕ → List Written
fresh_clauses_of x vars m p =
    map (λ c. negated (occurs (sent m)) ∷ negated (stands_before vars c (sent m)) ∷ [])
    (sender_carriers x m p)

-- freshness: no `out` or `nil` parameter of what is sent was known before
abbrev pub freshness_clauses : Expanded → Variables → List Written
freshness_clauses x vars =
    flat_map (λ m. flat_map (fresh_clauses_of x vars m) (fresh_parameters (message_of x m)))
    (message_numbers x)

-- the families of every formula, in order
abbrev pub shared_clauses : Expanded → Variables → List Written
shared_clauses x vars =
    order_clauses vars ++ occurrence_clauses vars ++ delivery_clauses x vars ++
    premise_clauses x vars ++ freshness_clauses x vars
