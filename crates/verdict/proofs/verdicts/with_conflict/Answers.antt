-- The run ends in a conflict, so it has a least one, which ends there too.
use Rattle.std.proofs.Common.{List, refl, subst}
use Rattle.bspl_types.specs.declared.event.Event.{Event}
use Rattle.bspl_types.specs.declared.expanded.Expanded.{Expanded}
use Rattle.enactment_model.specs.LeastConflict.{IsLeastConflict}
use Rattle.enactment_model.specs.Safety.{HasNoConflict}
use Rattle.verdict.proofs.RunLemmas.{found_least, some_conflict, unsafe_right}
use Rattle.verdict.proofs.verdicts.with_conflict.Goals as goal

pub unwrap-conflict-requires : goal.unwrap-conflict-requires
unwrap-conflict-requires c =
    let run = c.args.run in
    some_conflict c.producers.result c.args.a.now run
    (λ none.
    subst (λ (y : Expanded). HasNoConflict y run) c.expanded.ensures.same
    (subst (λ (events : List Event). HasNoConflict c.expanded.result.now events) c.as_slice.ensures (c.producers.ensures.none.0 none)))
    c.requires.refutation.refutes

pub returns : goal.returns
returns c =
    let x = c.args.a.now in
    let run = c.args.run in
    let found = c.unwrap-conflict.result in
    let least : IsLeastConflict x run found =
    subst (λ (y : Expanded). IsLeastConflict y run found) c.expanded.ensures.same
    (subst (λ (events : List Event). IsLeastConflict c.expanded.result.now events found) c.as_slice.ensures
    (found_least c.producers.result found c.expanded.result.now c.as_slice.result.now c.unwrap-conflict.ensures c.producers.ensures.least)) in
    record {
      param = found.param;
      first = found.first;
      second = found.second;
      is_unsafe = refl;
      right = unsafe_right x run found c.requires least;
    }
