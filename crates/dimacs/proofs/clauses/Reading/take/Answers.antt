-- A literal goes to the pending ones, and an end makes their clause.
use Rattle.dimacs.proofs.TokenLemmas.{end_more}
use Rattle.dimacs.proofs.clauses.Reading.take.Goals as goal

pub returns-in_ok-push-in-End : goal.returns-in_ok-push-in-End
returns-in_ok-push-in-End c =
    λ tokens are.
    let exactly = rw c.as_slice.ensures.value at c.in_ok-clause-in-End.ensures in
    rw (c.in-End.is, c.in_ok-push-in-End.ensures.ok, c.clear.ensures.items)
    (end_more tokens c.args.self.now.clauses c.args.self.now.pending.items c.in_ok-clause-in-End.clause exactly are)
