-- One key more.
use Rattle.std.proofs.Common.{List, subst, arith}
use Rattle.std.proofs.lemmas.List.{take_all}
use Rattle.bspl_types.specs.declared.value.Value.{Value}
use Rattle.report.specs.inner.Totals.{KnowsUnder}
use Rattle.report.proofs.TotalLemmas.{knows_all, under_push}
use Rattle.report.proofs.world_known.count_known.Goals as goal

pub loop-index-preserved : goal.loop-index-preserved
loop-index-preserved c =
    let x = c.args.x.now in
    let key = c.key.result in
    let more = c.count_known_under-known.result in
    record {
      counted = λ run is.
          under_push x run c.args.script.now.keys c.loop-index.index key c.loop-index.known more c.key.ensures (c.loop-index.invariant.counted run is)
          (knows_all x run key more (c.count_known_under-known.ensures.known run is));
      few = omega (arith, c.count_known_under-known.ensures.few, c.loop-index.invariant.few);
    }

pub returns : goal.returns
returns c = λ run is.
    let keys = c.args.script.now.keys in
    subst (λ (done : List (List Value)). KnowsUnder c.args.x.now run done c.loop-index.known) (take_all c.loop-index.index keys (omega arith)) (c.loop-index.invariant.counted run is)
