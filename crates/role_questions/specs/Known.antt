-- What a role knows under a key, as a list.
use Rattle.std.specs.Prelude.{◌↔◌, ℕ, ◌<◌, List}
use Rattle.std.specs.List.{AllPairs, Contains}
use Rattle.bspl_types.specs.declared.event.Event.{Event}
use Rattle.bspl_types.specs.declared.expanded.Expanded.{Expanded}
use Rattle.bspl_types.specs.declared.value.Value.{Value}
use Rattle.bspl_types.specs.Knowledge.{Knows}
use Rattle.role_questions.specs.declared.form.KnownValue.{KnownValue}

-- the list shows the parameter with the value
abbrev pub ListsValue : List KnownValue → ℕ → Value → Type 0
ListsValue list p v = Contains list (record { param = p; value = v })

-- exactly what the history makes known under the key, in the order of the parameters
pub record IsKnowledge (x : Expanded) (history : List Event) (key : List Value)
    (list : List KnownValue) : Type 0 where
  pub exact : (p : ℕ) (v : Value) → ListsValue list p v ↔ Knows x history key p v
  pub in_order : AllPairs (λ a b. a.param < b.param) list
