-- The first event that may not follow is bad, and at the end all may.
use Rattle.std.proofs.Common.{refl}
use Rattle.std.proofs.lemmas.Bool.{false≢true}
use Rattle.std.proofs.lemmas.Option.{slice_get_read}
use Rattle.enactment_model.proofs.LegalLemmas.{follows_at}
use Rattle.enactment_model.proofs.ReasonLemmas.{bad_at, legal_more}
use Rattle.enactment_model.proofs.legality.legal.Goals as goal

pub returns-in-Err-clause-exact : goal.returns-in-Err-clause-exact
returns-in-Err-clause-exact c =
    let run = c.args.run.now in
    let e = c.index-run-index.result in
    let at = slice_get_read run _ c.loop-index.index e refl c.loop-index-test.true c.index-run-index.is in
    (λ wrong. absurd (false≢true wrong), λ legal. absurd (false≢true (c.in-Err.ensures.exact.1 (follows_at c.args.x.now run legal c.loop-index.index e at))))

pub returns-in-Err-clause-bad : goal.returns-in-Err-clause-bad
returns-in-Err-clause-bad c =
    bad_at c.args.x.now c.args.run.now c.loop-index.index c.index-run-index.result c.in-Err.why c.loop-index-test.true c.index-run-index.is c.loop-index.invariant c.in-Err.ensures.why

pub loop-index-preserved : goal.loop-index-preserved
loop-index-preserved c =
    legal_more c.args.x.now c.args.run.now c.loop-index.index c.index-run-index.result c.loop-index-test.true c.index-run-index.is c.loop-index.invariant (c.in_default.ensures.exact.0 refl)
