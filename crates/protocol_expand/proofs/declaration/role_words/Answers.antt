-- One more that was made.
use Rattle.std.proofs.Common.{take, ◌+◌, sym, subst}
use Rattle.std.specs.List.{AllZip}
use Rattle.protocol_expand.specs.Canonical.{IsWordOf}
use Rattle.list_base.proofs.Zipped.{paired_push}
use Rattle.protocol_expand.proofs.declaration.role_words.Goals as goal

pub loop-name-preserved : goal.loop-name-preserved
loop-name-preserved c =
    subst (AllZip IsWordOf (take (c.loop-name.name-index + 1) c.args.names.now)) (sym c.in_ok-push.ensures.ok)
    (paired_push IsWordOf c.args.names.now c.loop-name.words c.loop-name.name-index c.name-item.result c.word_of.result c.loop-name-test.true c.name-item.is c.loop-name.invariant c.word_of.ensures)
