-- A literal that is not false is taken at once, and else one that is open.
use Rattle.sat_trail.proofs.ChoiceLemmas.{sought-open, sought-closed, sought-found}
use Rattle.sat_trail.proofs.watch_choice.last_left.Goals as goal
use Rattle.sat_trail.proofs.watch_choice.last_left.Goals.{then-is_spare, else-is_spare}

pub loop-lit-preserved : goal.loop-lit-preserved
loop-lit-preserved c = elim c.if-is_spare.branch [
  | then-is_spare w ↦ rw w.found-is (sought-open _ _ _ _ _ _ _ c.loop-lit-test.true c.loop-lit.invariant c.if-may_take.ensures.no w.if-is_spare.ensures.yes)
  | else-is_spare w ↦ rw w.found-is (sought-closed _ _ _ _ _ _ _ c.loop-lit-test.true c.loop-lit.invariant c.if-may_take.ensures.no w.if-is_spare.ensures.no)
]

pub returns-clause-found : goal.returns-clause-found
returns-clause-found c = sought-found _ _ _ _ _ _ c.loop-lit-test.false c.loop-lit.invariant
