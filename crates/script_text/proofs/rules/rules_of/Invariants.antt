-- The rules that the statements so far give.
use Rattle.std.proofs.Common.{◌≡◌, take}
use Rattle.std.specs.List.{flat_map}
use Rattle.agent_scripts.specs.StatedScript.{rule_in}
use Rattle.agent_scripts.specs.ScriptText.{statements_of}
use Rattle.script_text.proofs.rules.rules_of.Given as goal

abbrev pub invariant-loop-s : goal.invariant-loop-s
invariant-loop-s l = l.rules ≡ flat_map rule_in (statements_of (take l.s-index l.stated))
