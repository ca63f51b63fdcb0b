-- the values so far, and those of the parameters that are left
use Rattle.std.proofs.Common.{◌≡◌, ◌≤◌, ◌++◌, length, map, drop}
use Rattle.std.specs.List.{filter}
use Rattle.bspl_types.specs.Choice.{is_chosen}
use Rattle.agent_scripts.specs.Script.{rule_of, value_at}
use Rattle.agent_scripts.proofs.values.chosen_values.Given as goal

abbrev pub invariant-loop-c : goal.invariant-loop-c
invariant-loop-c l = record {
  few : length l.values ≤ l.c-index;
  given : l.values ++ map (λ c. value_at (rule_of l.rules l.message c.param) l.n)
      (filter (is_chosen l.keys) (drop l.c-index l.carried))
      ≡ map (λ c. value_at (rule_of l.rules l.message c.param) l.n)
      (filter (is_chosen l.keys) l.carried);
}
