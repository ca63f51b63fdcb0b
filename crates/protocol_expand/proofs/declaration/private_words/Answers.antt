-- One more that was made.
use Rattle.std.proofs.Common.{take, ◌+◌, sym, subst}
use Rattle.std.specs.List.{AllZip}
use Rattle.protocol_expand.specs.Canonical.{IsPrivateOf}
use Rattle.list_base.proofs.Zipped.{paired_push}
use Rattle.protocol_expand.proofs.declaration.private_words.Goals as goal

pub loop-p-preserved : goal.loop-p-preserved
loop-p-preserved c =
    subst (AllZip IsPrivateOf (take (c.loop-p.p-index + 1) c.args.params.now)) (sym c.in_ok-push.ensures.ok)
    (paired_push IsPrivateOf c.args.params.now c.loop-p.words c.loop-p.p-index c.p-item.result c.private_word.result c.loop-p-test.true c.p-item.is c.loop-p.invariant c.private_word.ensures)
