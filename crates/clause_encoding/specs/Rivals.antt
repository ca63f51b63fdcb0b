-- Two messages that produce one parameter are rivals; a safety formula selects two that both occur.
use Rattle.std.specs.Prelude.{ℕ, ◌+◌, Bool, ◌==◌, ◌&&◌, List, [], ◌∷◌, ◌++◌, map, length}
use Rattle.std.specs.List.{enumerate_from, filter, flat_map, list_any, range_with_len}
use Rattle.bspl_types.specs.declared.expanded.Expanded.{Expanded}
use Rattle.bspl_types.specs.declared.protocol.Message.{Message}
use Rattle.bspl_types.specs.Choice.{is_out}
use Rattle.bspl_types.specs.Expansion.{message_of}
use Rattle.clause_core.specs.Literal.{negated, positive}
use Rattle.clause_core.specs.Written.{Written}
use Rattle.clause_encoding.specs.declared.rivals.Rivals.{Rivals}
use Rattle.clause_encoding.specs.Variables.{kind_count, message_numbers, occurs, sent}

-- the message adorns the parameter `out`
abbrev pub produces : Message → ℕ → Bool
produces m p = list_any (λ c. is_out c.adornment && c.param == p) m.carried

-- the messages that produce a parameter, in order
abbrev pub producers_of : Expanded → ℕ → List ℕ
producers_of x p = filter (λ m. produces (message_of x m) p) (message_numbers x)

-- each two of the messages, in lexicographic order
abbrev pub rivals_among : ℕ → List ℕ → List Rivals
rivals_among p [] = []
rivals_among p (m ∷ others) =
    map (λ n. record { param = p; first = m; second = n }) others ++ rivals_among p others

-- the rivals of each parameter, in order
abbrev pub rivals_of : Expanded → List Rivals
rivals_of x = flat_map (λ p. rivals_among p (producers_of x p)) (range_with_len 0 (length x.params))

-- each rivals with the number of the variable that selects them; these follow the kinds
abbrev pub selectors : Expanded → List (ℕ × Rivals)
selectors x = enumerate_from (kind_count x + 1) (rivals_of x)

-- what is selected is sent
abbrev pub selected_is_sent : ℕ × Rivals → List Written
selected_is_sent (v, rivals) =
    (negated (positive v) ∷ occurs (sent rivals.first) ∷ []) ∷
    (negated (positive v) ∷ occurs (sent rivals.second) ∷ []) ∷ []

-- rival producers: two that are selected are sent, and some are selected
abbrev pub rival_clauses : Expanded → List Written
rival_clauses x =
    flat_map selected_is_sent (selectors x) ++
    map (λ (v, rivals). positive v) (selectors x) ∷ []
