-- One parameter more.
use Rattle.protocol_paths.specs.Flat.{IsImageFormal}
use Rattle.protocol_paths.specs.inner.ScopeOf.{scope_of}
use Rattle.list_base.proofs.Zipped.{paired_more}
use Rattle.protocol_paths.proofs.image.image_formals.Goals as goal

pub loop-formal-preserved : goal.loop-formal-preserved
loop-formal-preserved c = paired_more (IsImageFormal (scope_of c.args.scope.now)) c.args.formals.now c.loop-formal.images c.push.new.self c.loop-formal.formal-index c.formal-item.result _ c.loop-formal-test.true c.formal-item.is c.loop-formal.invariant c.in_ok-image_formal.ensures c.in_ok-push.ensures.ok
