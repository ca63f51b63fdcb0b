-- The law on well-scoped protocols.
use Rattle.protocol_expand.proofs.WellScopedLemmas.{expands}
use Rattle.protocol_expand.proofs.laws.well_scoped_protocols_expand.Goals as goal

pub returns : goal.returns
returns c = expands
