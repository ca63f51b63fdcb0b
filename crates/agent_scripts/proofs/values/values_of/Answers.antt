-- The message is that of the number.
use Rattle.std.proofs.lemmas.Option.{get_or_from_slice_get}
use Rattle.bspl_types.specs.Expansion.{no_message}
use Rattle.agent_scripts.proofs.values.values_of.Goals as goal

pub returns : goal.returns
returns c =
    let x = c.args.x.now in
    let is = get_or_from_slice_get x.messages c.args.message c.at.result.now no_message c.at.ensures in
    rw (c.as_slice-carried.ensures, ← is, c.as_slice.ensures) at c.chosen_values.ensures
