-- The tables are those of the protocols.
use Rattle.protocol_paths.proofs.TableLemmas.{have_tables_of}
use Rattle.protocol_paths.proofs.flat_top.tables_for.Goals as goal

pub returns : goal.returns
returns c = have_tables_of c.args.protocols.now c.args.limit c.tables_of.result c.tables_of.ensures
