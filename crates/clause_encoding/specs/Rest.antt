-- What the liveness formula adds: an enactment is quiet, and a public parameter is unbound.
use Rattle.std.specs.Prelude.{ℕ, ◌+◌, ◌==◌, List, [], ◌∷◌, ◌++◌, length, map, take}
use Rattle.std.specs.List.{enumerate_from, filter, flat_map}
use Rattle.bspl_types.specs.declared.expanded.Expanded.{Expanded}
use Rattle.bspl_types.specs.Expansion.{message_of}
use Rattle.bspl_types.specs.Shape.{is_public_value}
use Rattle.clause_core.specs.Literal.{negated, positive}
use Rattle.clause_core.specs.Written.{Written}
use Rattle.clause_encoding.specs.declared.wants.Want.{Want}
use Rattle.clause_encoding.specs.Carriers.{binds, fresh_parameters, in_parameters, sender_carriers}
use Rattle.clause_encoding.specs.Variables.{kind_count, message_numbers, occurs, received, sent}

-- the public parameters adorned `in` or `out`, in order
abbrev pub public_values : Expanded → List ℕ
public_values x =
    map (λ (p, _). p) (filter (λ (_, info). is_public_value info.adornment)
    (enumerate_from 0 (take x.public x.params)))

-- each with the number of the variable that says that it is unbound; these follow the kinds
abbrev pub unbound_variables : Expanded → List (ℕ × ℕ)
unbound_variables x = enumerate_from (kind_count x + 1) (public_values x)

-- a message with each parameter that it adorns `in`, in its order
abbrev pub wants_by : Expanded → ℕ → List Want
wants_by x m = map (λ p. record { message = m; param = p }) (in_parameters (message_of x m))

-- each message with each such parameter, in order
abbrev pub wants_of : Expanded → List Want
wants_of x = flat_map (wants_by x) (message_numbers x)

-- each with the number of the variable that says that the sender lacks the parameter; these follow
abbrev pub want_variables : Expanded → List (ℕ × Want)
want_variables x = enumerate_from (kind_count x + length (public_values x) + 1) (wants_of x)

-- arrival: what is sent is received
abbrev pub arrival_clauses : Expanded → List Written
arrival_clauses x =
    map (λ m. negated (occurs (sent m)) ∷ occurs (received m) ∷ []) (message_numbers x)

-- the variables of the parameters that the message's sender may lack
abbrev pub wanted_by : Expanded → ℕ → List ℕ
wanted_by x m = map (λ (v, _). v) (filter (λ (_, want). want.message == m) (want_variables x))

-- the kinds at its sender, other than its own emission, that make an `out` or `nil` of it known
abbrev pub blockers : Expanded → ℕ → List ℕ
blockers x m = flat_map (sender_carriers x m) (fresh_parameters (message_of x m))

-- the message is sent, or its sender lacks an `in`, or it knows an `out` or `nil`
abbrev pub exhaustion_clause : Expanded → ℕ → Written
exhaustion_clause x m =
    occurs (sent m) ∷ map positive (wanted_by x m) ++ map occurs (blockers x m)

-- exhaustion: no message that is not sent can be sent
abbrev pub exhaustion_clauses : Expanded → List Written
exhaustion_clauses x = map (exhaustion_clause x) (message_numbers x)

-- no kind at the sender that makes the parameter known occurs
abbrev pub want_clauses_of : Expanded → ℕ × Want → List Written
want_clauses_of x (v, want) =
    map (λ c. negated (positive v) ∷ negated (occurs c) ∷ [])
    (sender_carriers x want.message want.param)

-- want: what a sender lacks is made known to it by nothing
abbrev pub want_clauses : Expanded → List Written
want_clauses x = flat_map (want_clauses_of x) (want_variables x)

-- no message that adorns the parameter `in` or `out` is sent
abbrev pub unbound_clauses_of : Expanded → ℕ × ℕ → List Written
unbound_clauses_of x (v, p) =
    map (λ m. negated (positive v) ∷ negated (occurs (sent m)) ∷ [])
    (filter (λ m. binds (message_of x m) p) (message_numbers x))

-- unbound: what is unbound is in no message that is sent
abbrev pub unbound_clauses : Expanded → List Written
unbound_clauses x = flat_map (unbound_clauses_of x) (unbound_variables x)

-- all of these, and some public parameter is unbound
abbrev pub rest_clauses : Expanded → List Written
rest_clauses x =
    arrival_clauses x ++ exhaustion_clauses x ++ want_clauses x ++ unbound_clauses x ++
    map (λ (v, _). positive v) (unbound_variables x) ∷ []
