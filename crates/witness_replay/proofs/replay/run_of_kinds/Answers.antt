-- Each kind's event can happen, and makes the run longer by one.
use Rattle.std.proofs.Common.{◌+◌, ◌∷◌, ◌++◌, [], get_or, List, ℕ, subst, sym, take, arith}
use Rattle.std.proofs.lemmas.List.{take_more}
use Rattle.std.proofs.lemmas.Option.{slice_get-get_or}
use Rattle.bspl_types.specs.declared.event.Event.{Event}
use Rattle.bspl_types.specs.History.{IsRun}
use Rattle.clause_core.specs.Assignment.{valuation}
use Rattle.witness_replay.specs.Witness.{IsRunOfKinds, IsWitnessEvent}
use Rattle.witness_replay.specs.inner.Steps.{MayHappen}
use Rattle.witness_replay.proofs.HappenLemmas.{may_happen}
use Rattle.witness_replay.proofs.RunLemmas.{run_fits, run_more}
use Rattle.witness_replay.proofs.replay.run_of_kinds.Goals as goal

pub event_after-requires-clause-run : goal.event_after-requires-clause-run
event_after-requires-clause-run c =
    subst (IsRun c.args.x.now) (sym c.as_slice.ensures) (run_fits c.args.x.now (take c.loop-kind.kind-index c.args.kinds.now) c.loop-kind.run c.loop-kind.invariant)

pub event_after-requires-clause-may : goal.event_after-requires-clause-may
event_after-requires-clause-may c =
    let index = c.loop-kind.kind-index in
    let kind = get_or c.args.kinds.now index 0 in
    subst (λ (events : List Event). MayHappen c.args.x.now events kind) (sym c.as_slice.ensures)
    (may_happen c.known_exactly_if_some_event_binds.ensures.known c.known_exactly_if_some_event_binds.ensures.history c.args.x.now c.args.vars (valuation c.args.s.now) c.args.kinds.now c.requires.are_variables c.requires.satisfied c.requires.ordered
    index kind (slice_get-get_or c.args.kinds.now index 0 (omega arith)) c.loop-kind.run c.loop-kind.invariant)

pub loop-kind-preserved : goal.loop-kind-preserved
loop-kind-preserved c =
    let index = c.loop-kind.kind-index in
    let kinds = c.args.kinds.now in
    let event = c.in_ok-event_after.field-0 in
    let witness = subst (λ (events : List Event). IsWitnessEvent c.args.x.now events event) c.as_slice.ensures c.in_ok-event_after.ensures.witness in
    subst (IsRunOfKinds c.args.x.now (take (index + 1) kinds)) (sym c.in_ok-push.ensures.ok)
    (subst (λ (ks : List ℕ). IsRunOfKinds c.args.x.now ks (c.loop-kind.run ++ event ∷ [])) (sym (take_more kinds index 0 (omega arith)))
    (run_more c.args.x.now (take index kinds) c.loop-kind.run (get_or kinds index 0) event c.loop-kind.invariant witness c.in_ok-event_after.ensures.of_kind))
