-- Each statement has numbers of the table.
use Rattle.script_text.proofs.StatedLemmas.{each_has_numbers}
use Rattle.script_text.proofs.rules.declines_of.Goals as goal

pub declined_in-requires : goal.declined_in-requires
declined_in-requires c = each_has_numbers c.args.stated.now c.loop-s.s-index c.s-item.result c.requires c.loop-s-test.true c.s-item.is
