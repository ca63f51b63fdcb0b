-- The first value of a parameter among the pairs of an instance.
use Rattle.std.specs.Prelude.{ℕ, cond, ◌==◌, List, [], ◌∷◌, Option, None, Some}
use Rattle.bspl_types.specs.declared.protocol.Carried.{Carried}
use Rattle.bspl_types.specs.declared.value.Value.{Value}

-- the value of the first pair for the parameter
abbrev pub first_value : List (Carried × Value) → ℕ → Option Value
first_value [] p = None
first_value (pair ∷ pairs) p = cond (pair.0.param == p) (Some pair.1) (first_value pairs p)
