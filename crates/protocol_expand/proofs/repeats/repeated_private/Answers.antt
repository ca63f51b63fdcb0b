-- The name of a private parameter that stands before it.
use Rattle.protocol_expand.proofs.Noted.{noted_more, private_repeated}
use Rattle.protocol_expand.proofs.repeats.repeated_private.Goals as goal

pub returns-then-branch : goal.returns-then-branch
returns-then-branch c = λ words noted.
    private_repeated words c.args.private.now c.loop-word.word-index c.word-item.result c.loop-word.names c.loop-word-test.true c.word-item.is (c.loop-word.invariant words noted)
    (rw c.if-branch.true at (c.in_ok-note_name.ensures _ (c.loop-word.invariant words noted)))

pub loop-word-preserved : goal.loop-word-preserved
loop-word-preserved c = λ words noted.
    noted_more words c.args.private.now c.loop-word.word-index c.word-item.result _ c.loop-word-test.true c.word-item.is
    (rw c.if-branch.false at (c.in_ok-note_name.ensures _ (c.loop-word.invariant words noted)))
