-- Without threads the answer is finished alone.
use Rattle.std.proofs.Common.{◌≡◌, IsTrue, false, true, subst}
use Rattle.bspl_tool.proofs.call.completed.Goals as goal

pub finish_alone-requires-clause-alone : goal.finish_alone-requires-clause-alone
finish_alone-requires-clause-alone g c = λ args is threaded.
    let yes : false ≡ true = subst IsTrue c.if-is_threaded.false ((c.is_threaded.ensures args is).1 threaded) in
    absurd (cc)
