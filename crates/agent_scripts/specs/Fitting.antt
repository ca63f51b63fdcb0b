-- What holds of every script.
use Rattle.std.specs.Prelude.{◌≢◌, ◌<◌, ◌≤◌, List, length}
use Rattle.std.specs.List.{All, AllPairs}
use Rattle.bspl_types.specs.declared.value.Value.{Value}
use Rattle.agent_scripts.specs.declared.rules.ValueRule.{ValueRule}
use Rattle.agent_scripts.specs.Rules.{RuleFits}

-- there are from 1 to 10,000 keys, all different, and each value fits 64 bits
pub record IsFittingScript (keys : List (List Value)) (rules : List ValueRule) : Type 0 where
  pub some : 0 < length keys
  pub few : length keys ≤ 10000
  pub distinct : AllPairs (λ k l. k ≢ l) keys
  pub fits : All (λ r. RuleFits (length keys) r.rule) rules
