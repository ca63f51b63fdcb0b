-- What a script is, and which script and plan the statements of a text give.
use Rattle.std.specs.Prelude.{ℕ, ◌+◌, ◌*◌, ◌%◌, Bool, ◌==◌, ◌&&◌, if◌then◌else◌}
use Rattle.std.specs.Prelude.{List, [], ◌∷◌, map}
use Rattle.std.specs.List.{list_any}
use Rattle.bspl_types.specs.declared.expanded.Expanded.{Expanded}
use Rattle.bspl_types.specs.declared.value.Value.{Value}
use Rattle.bspl_types.specs.declared.value.Value.TheVariants.{Number, Text}
use Rattle.bspl_types.specs.Choice.{chosen_params}
use Rattle.agent_scripts.specs.declared.rules.Declined.{Declined}
use Rattle.agent_scripts.specs.declared.rules.ValueRule.{ValueRule}
use Rattle.agent_scripts.specs.declared.statement.Rule.{Rule}
use Rattle.agent_scripts.specs.declared.statement.Rule.TheVariants.{Linear, Fixed}

-- the workload keys; for each role the messages that it sends, in the order of attempt;
-- which are declined, at the multiples of which number; the rules of values
pub record Script : Type 0 where
  pub keys : List (List Value)
  pub orders : List (List ℕ)
  pub declines : List Declined
  pub rules : List ValueRule

-- the script declines message m at workload number n
abbrev pub is_declined : Script → ℕ → ℕ → Bool
is_declined script m n = list_any (λ d. d.message == m && n % d.every == 0) script.declines

-- the rule of a parameter that the message gives, or 100 times the number and the message's number
abbrev pub rule_of : List ValueRule → ℕ → ℕ → Rule
rule_of [] m p = Linear 100 (m + 1)
rule_of (r ∷ rules) m p =
    if r.message == m && r.param == p then r.rule else rule_of rules m p

-- the value that a rule gives at workload number n
abbrev pub value_at : Rule → ℕ → Value
value_at (Linear a b) n = Number (a * n + b)
value_at (Fixed text) n = Text text

-- the values that message m's sender chooses at workload number n, by the rules
abbrev pub given_values : Expanded → List ValueRule → ℕ → ℕ → List Value
given_values x rules m n = map (λ c. value_at (rule_of rules m c.param) n) (chosen_params x m)

-- and by those of the script
abbrev pub message_values : Expanded → Script → ℕ → ℕ → List Value
message_values x script m n = given_values x script.rules m n
