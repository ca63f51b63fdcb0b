-- What holds of the links that are left.
use Rattle.std.proofs.Common.{length}
use Rattle.clause_core.specs.Numbering.{Numbering}
use Rattle.refutation_log.specs.Resolution.{Derives}
use Rattle.lrat_text.proofs.HintLemmas.{IsSoFar}
use Rattle.lrat_text.proofs.hints.hints_of.Given as goal

-- the links that are left fold to a clause that is false
abbrev pub invariant-loop-link : goal.invariant-loop-link
invariant-loop-link l =
    (numbering : Numbering) → Derives numbering l.fn.chain l.fn.clause →
    IsSoFar numbering l.fn.clause l.fn.chain.first l.left l.true_lits.ranks l.hints

-- the links that are left
abbrev pub decreases-loop-link : goal.decreases-loop-link
decreases-loop-link l = length l.left
