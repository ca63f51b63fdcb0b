-- The values of an emission, one parameter after another.
use Rattle.std.specs.Prelude.{ℕ, ◌+◌, ◌==◌, Option, None, Some, if◌then◌else◌, List, [], ◌∷◌}
use Rattle.std.specs.Prelude.{slice_index_or}
use Rattle.bspl_types.specs.declared.protocol.Adornment.{Adornment}
use Rattle.bspl_types.specs.declared.protocol.Adornment.TheVariants.{In, Out, Nil}
use Rattle.bspl_types.specs.declared.protocol.Carried.{Carried}
use Rattle.bspl_types.specs.declared.value.Value.{Value}
use Rattle.bspl_types.specs.declared.value.Value.TheVariants.{Number}
use Rattle.bspl_types.specs.Adornment.{has_value}

-- the key's value of the parameter, if it is a key parameter
abbrev pub key_value : List ℕ → List Value → ℕ → Option Value
key_value [] key p = None
key_value (k ∷ keys) [] p = None
key_value (k ∷ keys) (v ∷ key) p = if k == p then Some v else key_value keys key p

-- the known value of an `in`, the key's of another key parameter, and else the next chosen one;
-- with it, how many chosen values it uses
abbrev pub filling : Adornment → Value → Option Value → Value → Value × ℕ
filling In known of_key next = (known, 0)
filling Nil known of_key next = (known, 0)
filling Out known (Some v) next = (v, 0)
filling Out known None next = (next, 1)

-- the values of these parameters, if so many chosen ones are used before them
abbrev pub filled : (ℕ → Value) → (ℕ → Option Value) → List Value → List Carried → ℕ → List Value
filled known of_key outs [] used = []
filled known of_key outs (c ∷ carried) used =
    let next = filling c.adornment (known c.param) (of_key c.param)
    (slice_index_or outs used (Number 0)) in
    if has_value c.adornment
    then next.0 ∷ filled known of_key outs carried (used + next.1)
    else filled known of_key outs carried used
