-- Assignments that report what first occurs in a run under a key.
use Rattle.std.specs.Prelude.{◌≡◌, ℕ, ◌<◌, ◌≤◌, Bool, List}
use Rattle.bspl_types.specs.declared.event.Event.{Event}
use Rattle.bspl_types.specs.declared.expanded.Expanded.{Expanded}
use Rattle.bspl_types.specs.declared.value.Value.{Value}
use Rattle.clause_encoding.specs.declared.variables.Variables.{Variables}
use Rattle.clause_encoding.specs.Variables.{IsKind, kind_count, order_variable}
use Rattle.first_occurrences.specs.Occurrence.{comes_first, is_occurring}

-- the variables are those of a formula of the protocol
pub record AreVariablesOf (x : Expanded) (vars : Variables) : Type 0 where
  pub kinds : vars.kinds ≡ kind_count x
  pub occurrences_first : vars.kinds ≤ vars.order_base

-- the assignment says of each kind whether it occurs, and of each two which comes first
pub record Reports (vars : Variables) (run : List Event) (key : List Value) (v : ℕ → Bool)
    : Type 0 where
  pub occurring : (kind : ℕ) → IsKind vars kind → v kind ≡ is_occurring run key kind
  pub order : (i j : ℕ) → IsKind vars i → IsKind vars j → i < j →
      v (order_variable vars i j) ≡ comes_first run key i j

-- it has the other values at the variables between occurrences and order
abbrev pub HasBetween : Variables → (ℕ → Bool) → (ℕ → Bool) → Type 0
HasBetween vars others v =
    (variable : ℕ) → vars.kinds < variable → variable ≤ vars.order_base →
    v variable ≡ others variable
