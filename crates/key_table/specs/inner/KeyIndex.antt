-- How the keys of a list are found: by their numbers, and the others by a map.
use Rattle.std.specs.Prelude.{◌≡◌, ◌≢◌, ◌⊎◌, ℕ, ◌-◌, ◌==◌, if◌then◌else◌, List, [], ◌∷◌}
use Rattle.std.specs.Prelude.{Option, None, Some, slice_get}
use Rattle.std.specs.BTreeMap.{BTreeMap, get}
use Rattle.std.specs.List.{AllPairs}
use Rattle.bspl_types.specs.declared.value.Value.{Value}
use Rattle.bspl_types.specs.declared.value.Value.TheVariants.{Number, Text}
use Rattle.key_table.specs.KeyOrder.{key_cmp}

-- the index before the number that is the key's first value
abbrev pub index_by_number : List Value → Option ℕ
index_by_number [] = None
index_by_number (Number n ∷ others) = if n == 0 then None else Some (n - 1)
index_by_number (Text text ∷ others) = None

-- the keys are distinct; the map has indices of theirs alone, and that of each one whose index is
-- not the one by its number
pub record IsKeyIndex (keys : List (List Value)) (indices : BTreeMap (List Value) ℕ) : Type 0 where
  pub mapped : (key : List Value) (i : ℕ) →
      get key_cmp indices key ≡ Some i → slice_get keys i ≡ Some key
  pub found : (key : List Value) (i : ℕ) → slice_get keys i ≡ Some key →
      (index_by_number key ≡ Some i) ⊎ (get key_cmp indices key ≡ Some i)
  pub distinct : AllPairs (λ k l. k ≢ l) keys
