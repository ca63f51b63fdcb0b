-- The law on positions, from its lemmas.
use Rattle.enactment_model.proofs.LegalLemmas.{follows_at, legal_from_positions}
use Rattle.enactment_model.proofs.laws.legal_by_positions.Goals as goal

pub returns : goal.returns
returns c = λ x run. (follows_at x run, legal_from_positions x run)
