-- The lines of a right verdict, or of a refusal.
use Rattle.dimacs.proofs.ReplyLemmas.{refusal_decides, verdict_decides}
use Rattle.dimacs.proofs.reply.decided.Goals as goal

pub returns-in_ok-answer_of-in-Ok : goal.returns-in_ok-answer_of-in-Ok
returns-in_ok-answer_of-in-Ok c =
    verdict_decides c.args.options c.args.text c.in-Ok.verdict _ _ c.requires.short c.in-Ok.ensures.right c.in_ok-answer_of-in-Ok.ensures c.status.ensures

pub returns-in_ok-refused_line-in-Err-Line : goal.returns-in_ok-refused_line-in-Err-Line
returns-in_ok-refused_line-in-Err-Line c =
    let cause = rw c.in-Err-Line.field-0-is at c.in-Err-Line.ensures.refused in
    refusal_decides c.args.options c.args.text c.in-Err-Line.line _ c.requires.short cause.0 cause.1 c.in_ok-refused_line-in-Err-Line.ensures
