-- The table of lines: what a line says, in names, and how it is written.
use Rattle.std.specs.Prelude.{◌≡◌, ℕ, ◌<◌, ◌≤◌, ◌^◌, List, [], ◌∷◌, length, map, codes}
use Rattle.std.specs.Prelude.{Option, Some, None}
use Rattle.std.specs.Fmt.{decimal}
use Rattle.std.specs.List.{All}
use Rattle.bspl_types.specs.declared.value.Value.{Value}
use Rattle.bspl_types.specs.declared.value.Value.TheVariants.{Text}
use Rattle.bspl_types.specs.Value.{IsValue}
use Rattle.bspl_types.specs.ValueSpelling.{value_spelling}
use Rattle.agent_scripts.specs.declared.statement.Setting.{Setting}
use Rattle.agent_scripts.specs.declared.statement.Setting.TheVariants as settings
use Rattle.agent_scripts.specs.declared.statement.Rule.{Rule}
use Rattle.agent_scripts.specs.declared.statement.Rule.TheVariants.{Linear, Fixed}
use Rattle.text_lines.specs.Fields.{Field}

-- what a line says: a setting; a workload key; a role's order; a message that is declined,
-- always or at some numbers; the rule of a value
pub data LineForm : Type 0 where
  Set : Setting → ℕ → LineForm
  Key : List Value → LineForm
  Order : Field → List Field → LineForm
  Decline : Field → Option ℕ → LineForm
  Bind : Field → Field → Rule → LineForm

-- the word of a setting
abbrev pub setting_word : Setting → Field
setting_word settings.Keys = codes "keys"
setting_word settings.Seed = codes "seed"
setting_word settings.Loss = codes "loss"
setting_word settings.Repeat = codes "repeat"

-- at how many numbers a message is declined: at all, or at those that one number divides
abbrev pub every_fields : Option ℕ → List Field
every_fields None = []
every_fields (Some n) = codes "every" ∷ decimal n ∷ []

-- a value is `A * n + B`, or a text
abbrev pub rule_fields : Rule → List Field
rule_fields (Linear a b) = decimal a ∷ decimal b ∷ []
rule_fields (Fixed text) = value_spelling (Text text) ∷ []

-- the fields of the line that says it
abbrev pub written : LineForm → List Field
written (Set setting n) = setting_word setting ∷ decimal n ∷ []
written (Key values) = codes "key" ∷ map value_spelling values
written (Order role messages) = codes "order" ∷ role ∷ messages
written (Decline message every) = codes "decline" ∷ message ∷ every_fields every
written (Bind message param rule) = codes "value" ∷ message ∷ param ∷ rule_fields rule

-- the numbers that a setting can have
abbrev pub IsSetting : Setting → ℕ → Type 0
IsSetting settings.Keys n = (1 ≤ n) × (n ≤ 10000)
IsSetting settings.Seed n = n < 2 ^ 64
IsSetting settings.Loss n = n ≤ 1000
IsSetting settings.Repeat n = n ≤ 3

-- always, or a number from 1
abbrev pub IsEvery : Option ℕ → Type 0
IsEvery None = Unit {0}
IsEvery (Some n) = (1 ≤ n) × (n < 2 ^ 64)

-- the numbers and the text of a rule
abbrev pub IsRule : Rule → Type 0
IsRule (Linear a b) = (a < 2 ^ 64) × (b < 2 ^ 64)
IsRule (Fixed text) = IsValue (Text text)

-- the table has the line, for a protocol with this number of keys
abbrev pub IsInTable : ℕ → LineForm → Type 0
IsInTable keys (Set setting n) = IsSetting setting n
IsInTable keys (Key values) = (length values ≡ keys) × All IsValue values
IsInTable keys (Order role messages) = 1 ≤ length messages
IsInTable keys (Decline message every) = IsEvery every
IsInTable keys (Bind message param rule) = IsRule rule
