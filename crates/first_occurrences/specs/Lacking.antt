-- What an enactment lacks: parameters that no message binds, and those that a sender does not know.
use Rattle.std.specs.Prelude.{◌≡◌, ℕ, Bool, not, ◌&&◌, List}
use Rattle.std.specs.List.{Contains, list_any}
use Rattle.bspl_types.specs.declared.event.Event.{Event}
use Rattle.bspl_types.specs.declared.expanded.Expanded.{Expanded}
use Rattle.bspl_types.specs.declared.value.Value.{Value}
use Rattle.bspl_types.specs.Expansion.{message_of}
use Rattle.clause_encoding.specs.declared.wants.Want.{Want}
use Rattle.clause_encoding.specs.Carriers.{binds, sender_carriers}
use Rattle.clause_encoding.specs.Rest.{unbound_variables, want_variables}
use Rattle.clause_encoding.specs.Variables.{message_numbers, sent}
use Rattle.first_occurrences.specs.Occurrence.{is_occurring}

-- some message that adorns the parameter `in` or `out` is sent
abbrev pub is_bound : Expanded → List Event → List Value → ℕ → Bool
is_bound x run key p =
    list_any (λ m. binds (message_of x m) p && is_occurring run key (sent m)) (message_numbers x)

-- some kind at the message's sender occurs that makes the parameter known, other than the emission
abbrev pub is_supplied : Expanded → List Event → List Value → Want → Bool
is_supplied x run key want =
    list_any (is_occurring run key) (sender_carriers x want.message want.param)

-- the assignment says of each public parameter whether it is unbound, and of each parameter that a
-- message adorns `in` whether its sender lacks it
pub record SaysWhatIsLacking (x : Expanded) (run : List Event) (key : List Value) (v : ℕ → Bool)
    : Type 0 where
  pub unbound : (variable p : ℕ) → Contains (unbound_variables x) (variable, p) →
      v variable ≡ not (is_bound x run key p)
  pub lacking : (variable : ℕ) (want : Want) → Contains (want_variables x) (variable, want) →
      v variable ≡ not (is_supplied x run key want)
