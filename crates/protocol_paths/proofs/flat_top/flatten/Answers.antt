-- No path is cut off by the depth.
use Rattle.protocol_paths.proofs.FlatLemmas.{flat_answer}
use Rattle.protocol_paths.proofs.flat_top.flatten.Goals as goal

pub returns : goal.returns
returns c = flat_answer c.min-limit.result c.args.depth c.args.table.now.protocols.now c.args.top.now c.flat_to.result c.min-limit.ensures c.requires.within_depth c.flat_to.ensures
