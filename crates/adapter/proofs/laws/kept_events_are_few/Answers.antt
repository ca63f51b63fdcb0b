-- The law.
use Rattle.adapter.proofs.FewLemmas.{kept_few}
use Rattle.adapter.proofs.laws.kept_events_are_few.Goals as goal

pub returns : goal.returns
returns c = kept_few
