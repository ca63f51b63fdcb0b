-- The first position of the emission is that of the instance.
use Rattle.run_index.proofs.EmissionLemmas.{first_emission_from}
use Rattle.run_index.proofs.index.RunIndex.first_emission.Goals as goal

pub returns : goal.returns
returns c = first_emission_from c.args.self.now c.args.instance.now c.first_of.result c.first_of.ensures
