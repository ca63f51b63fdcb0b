-- the rules that were passed over are of other parameters
use Rattle.std.proofs.Common.{◌≡◌, drop}
use Rattle.agent_scripts.specs.Script.{rule_of}
use Rattle.agent_scripts.proofs.values.rule_of.Given as goal

abbrev pub invariant-loop-r : goal.invariant-loop-r
invariant-loop-r l =
    rule_of (drop l.r-index l.rules) l.message l.param ≡ rule_of l.rules l.message l.param
