-- What is kept of the statements that were read.
use Rattle.std.specs.Prelude.{◌≡◌, ◌≤◌, Bool, true, false, List, length}
use Rattle.std.specs.List.{All, flat_map, list_any}
use Rattle.bspl_types.specs.declared.value.Value.{Value}
use Rattle.agent_scripts.specs.declared.statement.Setting.TheVariants.{Keys}
use Rattle.agent_scripts.specs.declared.statement.Stated.{Stated}
use Rattle.agent_scripts.specs.declared.statement.Statement.{Statement}
use Rattle.agent_scripts.specs.declared.statement.Statement.TheVariants.{Set}
use Rattle.agent_scripts.specs.Rules.{key_in}
use Rattle.agent_scripts.specs.ScriptText.{KeepRules, statements_of}
use Rattle.script_text.specs.Reading.{HasNumbers}

-- a line `keys`
abbrev pub sets_keys : Statement → Bool
sets_keys (Set Keys _) = true
sets_keys _ = false

-- the statements keep the rules; the keys are those of `key` lines; and `keys` is set or not
pub record AreStatements (stated : List Stated) (keys : List (List Value)) (counted : Bool)
    : Type 0 where
  pub rules : KeepRules (statements_of stated)
  pub numbers : All HasNumbers (statements_of stated)
  pub key_list : keys ≡ flat_map key_in (statements_of stated)
  pub few_keys : length keys ≤ 10000
  pub is_counted : counted ≡ list_any sets_keys (statements_of stated)
