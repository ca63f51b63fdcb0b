-- What the statements so far decline.
use Rattle.std.proofs.Common.{◌≡◌, ℕ, map, take}
use Rattle.std.specs.List.{flat_map}
use Rattle.agent_scripts.specs.StatedScript.{declined_in}
use Rattle.agent_scripts.specs.ScriptText.{statements_of}
use Rattle.script_text.proofs.rules.declines_of.Given as goal

abbrev pub invariant-loop-s : goal.invariant-loop-s
invariant-loop-s l =
    map {B = ℕ × ℕ} (λ d. (d.message, d.every)) l.declines ≡ flat_map declined_in (statements_of (take l.s-index l.stated))
