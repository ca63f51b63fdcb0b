-- The marked clause resolves with that of the link, whatever list it is given as.
use Rattle.std.proofs.Common.{refl}
use Rattle.log_checker.proofs.ChainLemmas.{Resolved-marks}
use Rattle.log_checker.proofs.chains.fold_link.Goals as goal

pub returns-clause-ok : goal.returns-clause-ok
returns-clause-ok c = λ clause marks.
    Resolved-marks c.lists_have_clauses.ensures _ clause c.in-Some.other c.args.link c.args.marks.now c.resolve.new.self marks c.in-Some.ensures.some
    (c.if-not-has.ensures.0 refl) (rw c.negation.ensures.exact at (c.if-not-has-2.ensures.0 refl)) (rw c.lits.ensures.same at c.in_ok-resolve.ensures)
