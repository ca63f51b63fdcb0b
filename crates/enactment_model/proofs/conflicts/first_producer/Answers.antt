-- The first event that produces the parameter, or none does.
use Rattle.std.proofs.Common.{below_more, refl, arith}
use Rattle.std.proofs.lemmas.Bool.{iff_false}
use Rattle.std.proofs.lemmas.Option.{slice_get_read}
use Rattle.enactment_model.specs.Safety.{ProducesAt}
use Rattle.enactment_model.proofs.ConflictLemmas.{at_least, produces_at, producer_at, producer_within}
use Rattle.enactment_model.proofs.conflicts.first_producer.Goals as goal

pub returns-then-is_producer : goal.returns-then-is_producer
returns-then-is_producer c =
    let x = c.args.x.now in
    let run = c.args.run.now in
    let at = slice_get_read run _ c.loop-index.index c.index-run-index.result refl c.loop-index-test.true c.index-run-index.is in
    record {
      produces = produces_at x run c.args.key.now c.args.param c.loop-index.index c.index-run-index.result at (c.is_producer.ensures.0 c.if-is_producer.true);
      least = at_least (ProducesAt x run c.args.key.now c.args.param) c.loop-index.index c.loop-index.invariant;
    }

pub loop-index-preserved : goal.loop-index-preserved
loop-index-preserved c =
    let run = c.args.run.now in
    let at = slice_get_read run _ c.loop-index.index c.index-run-index.result refl c.loop-index-test.true c.index-run-index.is in
    below_more _ _ c.loop-index.invariant (λ produces. iff_false c.is_producer.ensures c.if-is_producer.false (producer_at c.args.x.now run c.args.key.now c.args.param c.loop-index.index c.index-run-index.result at produces))

pub returns : goal.returns
returns c position produces =
    c.loop-index.invariant position (omega (arith, producer_within c.args.x.now c.args.run.now c.args.key.now c.args.param position produces)) produces
