-- What the loop over the input keeps, and why it ends.
use Rattle.std.proofs.Common.{◌≡◌, ◌-◌, length}
use Rattle.bspl_types.specs.Limits.{input_limit}
use Rattle.live_role.specs.inner.Opening.{HasRead}
use Rattle.live_role.proofs.reading.read_opening.Given as goal

-- the line has not come, and no fault was counted
abbrev pub invariant-pieces : goal.invariant-pieces
invariant-pieces g l = record {
  room : length l.piece ≡ 4096;
  read : HasRead (g.R.Source.remaining l.fn.input) (g.R.Source.remaining l.input) l.taken l.opening;
  still : g.R.Source.faults l.input ≡ g.R.Source.faults l.fn.input;
}

-- how many bytes may still come
abbrev pub decreases-pieces : goal.decreases-pieces
decreases-pieces g l = input_limit - l.taken
