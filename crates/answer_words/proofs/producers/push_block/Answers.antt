-- The name is that of the parameter.
use Rattle.std.proofs.Common.{append_assoc}
use Rattle.bspl_types.specs.Expansion.{param_name}
use Rattle.answer_words.proofs.producers.push_block.Goals as goal
use Rattle.answer_words.specs.declared.wording.verdicts.TheConstants as verdicts

pub returns-in_ok-append-in-Missing : goal.returns-in_ok-append-in-Missing
returns-in_ok-append-in-Missing c =
    let parts = append_assoc c.args.text.now verdicts.DOES_NOT_KNOW.now (param_name c.args.x.now c.in-Missing.param) in
    rw c.in-Missing.is (rw (c.in_ok-append-in-Missing.ensures.ok, c.param_name.ensures, parts) at c.append-in-Missing.ensures.ok)
