-- The law on models, from its lemmas.
use Rattle.witness_replay.specs.Laws.{ModelRefutes}
use Rattle.witness_replay.proofs.ModelLemmas.{model_refutes_each, refuted_fails}
use Rattle.witness_replay.proofs.laws.model_refutes.Goals as goal

-- the run that refutes the property
refutes : goal.After-violated_does_not_hold → ModelRefutes
refutes c =
    model_refutes_each c.legal_by_positions.ensures c.known_exactly_if_some_event_binds.ensures.known c.known_exactly_if_some_event_binds.ensures.history c.shortest_conflict.ensures

pub returns-clause-refuted : goal.returns-clause-refuted
returns-clause-refuted c = refutes c

pub returns-clause-fails : goal.returns-clause-fails
returns-clause-fails c = refuted_fails c.violated_does_not_hold.ensures (refutes c)
