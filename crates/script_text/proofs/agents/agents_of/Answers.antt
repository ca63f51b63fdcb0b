-- The script is fitting: its keys are some, few and different, and the values of its rules fit.
use Rattle.std.proofs.Common.{length}
use Rattle.agent_scripts.specs.StatedScript.{keys_given}
use Rattle.agent_scripts.specs.ScriptText.{statements_of}
use Rattle.script_text.proofs.StatedLemmas.{rules_fit}
use Rattle.script_text.proofs.agents.agents_of.Goals as goal

pub of-script-requires : goal.of-script-requires
of-script-requires c =
    let stated = c.args.statements in
    let count = length (keys_given (length c.args.x.now.keys) (statements_of stated)) in
    let given = rw c.as_slice-stated.ensures.same at c.in_ok-rules.ensures in
    record {
      some = c.in_ok-keys.ensures.some;
      few = c.in_ok-keys.ensures.few;
      distinct = c.in_ok-keys.ensures.distinct;
      fits = rw (given, c.in_ok-keys.ensures.keys, c.len.ensures) (rules_fit count stated c.requires.in_range);
    }
