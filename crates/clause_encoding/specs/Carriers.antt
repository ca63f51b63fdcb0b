-- Which parameters a message adorns in which way, and which event kinds make a parameter known.
use Rattle.std.specs.Prelude.{ℕ, Bool, true, false, not, ◌==◌, if◌then◌else◌, List, [], ◌∷◌, ◌++◌, map}
use Rattle.std.specs.List.{filter, flat_map, list_any}
use Rattle.bspl_types.specs.declared.expanded.Expanded.{Expanded}
use Rattle.bspl_types.specs.declared.protocol.Adornment.{Adornment}
use Rattle.bspl_types.specs.declared.protocol.Adornment.TheVariants.{In, Out, Nil}
use Rattle.bspl_types.specs.declared.protocol.Message.{Message}
use Rattle.bspl_types.specs.Adornment.{valued}
use Rattle.bspl_types.specs.Expansion.{message_of}
use Rattle.clause_encoding.specs.Variables.{message_numbers, received, sent}

-- the adornment is `in`
abbrev pub is_in : Adornment → Bool
is_in In = true
is_in Out = false
is_in Nil = false

-- the parameters that a message adorns `in`, in its order
abbrev pub in_parameters : Message → List ℕ
in_parameters m = map (λ c. c.param) (filter (λ c. is_in c.adornment) m.carried)

-- and those that it adorns `out` or `nil`
abbrev pub fresh_parameters : Message → List ℕ
fresh_parameters m = map (λ c. c.param) (filter (λ c. not (is_in c.adornment)) m.carried)

-- the message adorns the parameter `in` or `out`
abbrev pub binds : Message → ℕ → Bool
binds m p = list_any (λ c. c.param == p) (valued m.carried)

-- the kinds of a message at a role: it sends the message, or receives it
abbrev pub kinds_at : Expanded → ℕ → ℕ → List ℕ
kinds_at x role m =
    (if (message_of x m).sender == role then sent m ∷ [] else []) ++
    (if (message_of x m).receiver == role then received m ∷ [] else [])

-- the kinds at a role whose message adorns the parameter `in` or `out`, in order
abbrev pub carriers : Expanded → ℕ → ℕ → List ℕ
carriers x role p =
    flat_map (kinds_at x role) (filter (λ m. binds (message_of x m) p) (message_numbers x))

-- those at the sender of a message, other than its own emission
abbrev pub sender_carriers : Expanded → ℕ → ℕ → List ℕ
sender_carriers x m p =
    filter (λ kind. not (kind == sent m)) (carriers x (message_of x m).sender p)
