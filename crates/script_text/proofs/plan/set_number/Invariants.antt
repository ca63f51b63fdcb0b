-- The setting is that of the statements that are left.
use Rattle.std.proofs.Common.{◌≡◌, drop}
use Rattle.agent_scripts.specs.StatedScript.{setting_of}
use Rattle.agent_scripts.specs.ScriptText.{statements_of}
use Rattle.script_text.proofs.plan.set_number.Given as goal

abbrev pub invariant-loop-s : goal.invariant-loop-s
invariant-loop-s l =
    setting_of (statements_of (drop l.s-index l.stated)) l.setting l.default ≡ setting_of (statements_of l.stated) l.setting l.default
