-- The keys so far.
use Rattle.std.proofs.Common.{◌≡◌}
use Rattle.agent_scripts.specs.StatedScript.{counted_keys}
use Rattle.script_text.proofs.keys.counted_keys.Given as goal

abbrev pub invariant-loop-n : goal.invariant-loop-n
invariant-loop-n l = l.table ≡ counted_keys l.width l.n
