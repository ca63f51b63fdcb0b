-- Without `key` lines there are as many as `keys` says.
use Rattle.std.proofs.Common.{List, length, sym, ap, ◌∙◌}
use Rattle.bspl_types.specs.declared.value.Value.{Value}
use Rattle.agent_scripts.specs.declared.statement.Setting.TheVariants.{Keys}
use Rattle.agent_scripts.specs.StatedScript.{setting_of}
use Rattle.agent_scripts.specs.ScriptText.{statements_of}
use Rattle.script_text.proofs.KeyLemmas.{keys_are_counted, length-counted_keys}
use Rattle.script_text.proofs.keys.key_count.Goals as goal

pub returns-then-listed-eq0-clause-count : goal.returns-then-listed-eq0-clause-count
returns-then-listed-eq0-clause-count c = λ width.
    let statements = statements_of c.args.statements.now in
    let number = rw c.as_slice.ensures.same at c.set_number.ensures.number in
    number
    ∙ sym (ap (length {A = List Value}) (keys_are_counted width statements (sym c.key_lines-listed.ensures.count ∙ c.if-listed-eq0.true)) ∙ length-counted_keys width (setting_of statements Keys 1))
