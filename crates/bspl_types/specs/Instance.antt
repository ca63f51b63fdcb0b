-- The values of an instance, and when an instance fits a protocol.
use Rattle.std.specs.Prelude.{◌≡◌, ℕ, ◌<◌, List, length}
use Rattle.std.specs.List.{All, Contains, zip}
use Rattle.bspl_types.specs.declared.event.Instance.{Instance}
use Rattle.bspl_types.specs.declared.expanded.Expanded.{Expanded}
use Rattle.bspl_types.specs.declared.protocol.Adornment.{Adornment}
use Rattle.bspl_types.specs.declared.protocol.Carried.{Carried}
use Rattle.bspl_types.specs.declared.value.Value.{Value}
use Rattle.bspl_types.specs.Adornment.{valued}
use Rattle.bspl_types.specs.Expansion.{message_of}
use Rattle.bspl_types.specs.KeyAgrees.{KeyAgrees}

-- each parameter adorned `in` or `out`, with its value
abbrev pub pairs : Expanded → Instance → List (Carried × Value)
pairs x i = zip (valued (message_of x i.message).carried) i.values

-- the instance has that value for the parameter, to which its message gives that adornment
abbrev pub Carries : Expanded → Instance → Adornment → ℕ → Value → Type 0
Carries x i adornment p v = Contains (pairs x i) (record { param = p; adornment = adornment }, v)

-- its message exists, it has a value for each `in` and `out` parameter and one for each key, and
-- its key parameters have the key's values
pub record Fits (x : Expanded) (i : Instance) : Type 0 where
  pub known : i.message < length x.messages
  pub each_value : length i.values ≡ length (valued (message_of x i.message).carried)
  pub key_length : length i.key ≡ length x.keys
  pub key_values : All (KeyAgrees x.keys i.key) (pairs x i)
