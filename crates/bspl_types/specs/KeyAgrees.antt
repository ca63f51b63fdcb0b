-- A key parameter of an instance has the key's value.
use Rattle.std.specs.Prelude.{◌≡◌, ℕ, List, slice_get, Some}
use Rattle.bspl_types.specs.declared.protocol.Carried.{Carried}
use Rattle.bspl_types.specs.declared.value.Value.{Value}

-- if the parameter is a key, its value is the key's at the same index
pub record KeyAgrees (keys : List ℕ) (key : List Value) (pair : Carried × Value) : Type 0 where
  pub same : (index : ℕ) →
      slice_get keys index ≡ Some pair.0.param → slice_get key index ≡ Some pair.1
