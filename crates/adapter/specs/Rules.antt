-- The rules by which the agents of a job act.
use Rattle.std.specs.Prelude.{ℕ, ◌-◌, List, [], slice_index_or}
use Rattle.bspl_types.specs.declared.value.Value.{Value}
use Rattle.agent_scripts.specs.Job.{Job}
use Rattle.agent_scripts.specs.Script.{is_declined, rule_of, value_at}
use Rattle.stamped_history.specs.Rules.{Rules}
use Rattle.reorder_net.specs.Losses.{is_lost}

-- those of its script, and the losses of its plan
abbrev pub rules_of : Job → Rules
rules_of job = record {
  keys = job.script.keys;
  order = λ role. slice_index_or job.script.orders role [];
  declines = λ m n. is_declined job.script m n;
  value = λ m p n. value_at (rule_of job.script.rules m p) n;
  loses = λ m n. is_lost job.plan m n;
}

-- the workload key of that number, from 1
abbrev pub key_of : Job → ℕ → List Value
key_of job n = slice_index_or job.script.keys (n - 1) []
