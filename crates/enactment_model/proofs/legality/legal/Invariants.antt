-- What the loop over the events has found.
use Rattle.std.proofs.Common.{take}
use Rattle.enactment_model.specs.Legal.{IsLegal}
use Rattle.enactment_model.proofs.legality.legal.Given as goal

-- the events so far are legal
abbrev pub invariant-loop-index : goal.invariant-loop-index
invariant-loop-index l = IsLegal l.x (take l.index l.run)
