-- A run with a conflict has a least one, which is within it.
use Rattle.std.proofs.Common.{◌≡◌, take}
use Rattle.std.proofs.lemmas.Result.{IfOk-weaker}
use Rattle.witness_replay.specs.Refuting.{IsCutAtConflict}
use Rattle.witness_replay.proofs.ConflictLemmas.{cut_at, found_least, least_within, some_conflict}
use Rattle.witness_replay.proofs.witness.cut_at_conflict.Goals as goal

pub unwrap-conflict-requires : goal.unwrap-conflict-requires
unwrap-conflict-requires c =
    some_conflict c.producers.result c.args.x.now c.args.run.now (λ none. c.producers.ensures.none.0 none) c.requires.conflict

pub first_events-requires : goal.first_events-requires
first_events-requires c =
    least_within c.args.x.now c.args.run.now c.unwrap-conflict.result
    (found_least c.producers.result c.unwrap-conflict.result c.args.x.now c.args.run.now c.unwrap-conflict.ensures c.producers.ensures.least)

pub returns : goal.returns
returns c =
    let x = c.args.x.now in
    let whole = c.args.run.now in
    let found = c.unwrap-conflict.result in
    let least = found_least c.producers.result found x whole c.unwrap-conflict.ensures c.producers.ensures.least in
    IfOk-weaker c.first_events.result (λ run. run ≡ take found.second whole) (IsCutAtConflict x whole)
    (λ run is. cut_at x whole run found least is)
    c.first_events.ensures
