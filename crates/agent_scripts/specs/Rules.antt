-- Which statements can stand in one text.
use Rattle.std.specs.Prelude.{◌≡◌, ◌≢◌, ℕ, ◌+◌, ◌*◌, ◌<◌, ◌≤◌, ◌^◌, List, [], ◌∷◌, ◌++◌, length}
use Rattle.std.specs.List.{All, AllPairs, flat_map}
use Rattle.bspl_types.specs.declared.value.Value.{Value}
use Rattle.agent_scripts.specs.declared.statement.Rule.{Rule}
use Rattle.agent_scripts.specs.declared.statement.Rule.TheVariants.{Linear, Fixed}
use Rattle.agent_scripts.specs.declared.statement.Setting.TheVariants as settings
use Rattle.agent_scripts.specs.declared.statement.Statement.{Statement}
use Rattle.agent_scripts.specs.declared.statement.Statement.TheVariants.{Set, Key, Order, Decline, Bind}

-- a setting once; `keys` without `key`; no two equal keys; an order for each role once;
-- declined once for each message; a value once for each message and parameter
abbrev pub StandTogether : Statement → Statement → Type 0
StandTogether (Set s _) (Set t _) = s ≢ t
StandTogether (Set s _) (Key _) = s ≢ settings.Keys
StandTogether (Key _) (Set t _) = t ≢ settings.Keys
StandTogether (Key k) (Key l) = k ≢ l
StandTogether (Order role _) (Order other _) = role ≢ other
StandTogether (Decline m _) (Decline n _) = m ≢ n
StandTogether (Bind m p _) (Bind n q _) = m ≡ n → p ≢ q
StandTogether _ _ = Unit {0}

-- no message stands twice in its order
abbrev pub HasDistinct : Statement → Type 0
HasDistinct (Order _ messages) = AllPairs (λ m n. m ≢ n) messages
HasDistinct _ = Unit {0}

-- the key of a line that has one
abbrev pub key_in : Statement → List (List Value)
key_in (Key values) = values ∷ []
key_in _ = []

-- the statement keeps the rules after those before it
pub record KeepsRules (before : List Statement) (s : Statement) : Type 0 where
  pub together : All (λ t. StandTogether t s) before
  pub distinct : HasDistinct s
  pub few_keys : length (flat_map key_in (before ++ s ∷ [])) ≤ 10000

-- the value fits 64 bits at each number up to c
abbrev pub RuleFits : ℕ → Rule → Type 0
RuleFits c (Linear a b) = a * c + b < 2 ^ 64
RuleFits c (Fixed _) = Unit {0}

-- and so does that of a line that has one
abbrev pub ValueFits : ℕ → Statement → Type 0
ValueFits c (Bind _ _ rule) = RuleFits c rule
ValueFits c _ = Unit {0}
