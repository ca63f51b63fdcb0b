-- One parameter more is distinct from those before it, and at the end all are.
use Rattle.std.proofs.Common.{subst}
use Rattle.std.proofs.lemmas.Bool.{false≢true}
use Rattle.std.proofs.lemmas.List.{take_all}
use Rattle.protocol_expand.specs.NotAdmitted.{HasDistinctParams}
use Rattle.protocol_expand.proofs.Firsts.{distinct_more}
use Rattle.protocol_expand.proofs.message_fault.first_repeated.Goals as goal

pub loop-index-preserved : goal.loop-index-preserved
loop-index-preserved c = distinct_more c.args.carried.now c.loop-index.index _ c.loop-index-test.true (λ among. false≢true (c.if-has_param.ensures.1 among)) c.loop-index.invariant

pub returns : goal.returns
returns c = subst (λ list. HasDistinctParams list) (take_all c.loop-index.index c.args.carried.now c.loop-index-test.false) c.loop-index.invariant
