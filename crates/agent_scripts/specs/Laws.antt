-- What holds of a script for a protocol.
use Rattle.std.specs.Prelude.{◌≡◌, ℕ, List, length, slice_get, Some}
use Rattle.std.specs.List.{All, Contains}
use Rattle.bspl_types.specs.declared.expanded.Expanded.{Expanded}
use Rattle.agent_scripts.specs.Refusal.{IsScriptFor}
use Rattle.agent_scripts.specs.Script.{Script}
use Rattle.agent_scripts.specs.Statement.{IsSentBy}

-- each key has a value for each key parameter; there is an order for each role, and it has exactly
-- the messages that the role sends
pub record FitsProtocol (x : Expanded) (script : Script) : Type 0 where
  pub keys : All (λ key. length key ≡ length x.keys) script.keys
  pub roles : length script.orders ≡ length x.roles
  pub sent : (role : ℕ) (order : List ℕ) →
      slice_get script.orders role ≡ Some order → All (IsSentBy x role) order
  pub whole : (role : ℕ) (order : List ℕ) → slice_get script.orders role ≡ Some order →
      (m : ℕ) → IsSentBy x role m → Contains order m

-- scripts fit their protocols
abbrev pub ScriptsFit : Type 0
ScriptsFit = (x : Expanded) (script : Script) → IsScriptFor x script → FitsProtocol x script
