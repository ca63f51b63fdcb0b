-- What is read of the fields after the name is read of the line.
use Rattle.std.proofs.Common.{◌≡◌, codes, rules}
use Rattle.refutation_log.proofs.Fields.{step_read}
use Rattle.refutation_log.proofs.steps.step_of.Goals as goal

pub returns-in-Some : goal.returns-in-Some
returns-in-Some c =
    let name : c.split_once.result.0.now ≡ codes "step" = search rules in
    let parts = rw (name, c.in-Some.is) at c.split_once.ensures.parts in
    step_read c.args.line.now _ c.chain_of.result parts c.chain_of.ensures
