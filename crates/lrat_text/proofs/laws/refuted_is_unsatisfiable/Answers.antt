-- A valuation that satisfies the live clauses satisfies each clause that is added.
use Rattle.lrat_text.proofs.Soundness.{refuted_unsatisfiable}
use Rattle.lrat_text.proofs.laws.refuted_is_unsatisfiable.Goals as goal

pub returns : goal.returns
returns c = refuted_unsatisfiable
