-- What the loop over the parameters that may be lacking has appended.
use Rattle.std.specs.Prelude.{◌≡◌, ◌++◌, take}
use Rattle.clause_encoding.specs.inner.Lacking.{wanted_lits}
use Rattle.clause_encoding.proofs.exhaustion.add_wanted.Given as goal

-- the literals of those before the index
abbrev pub invariant-loop-n : goal.invariant-loop-n
invariant-loop-n l = l.lits ≡ l.initial.lits ++ wanted_lits l.first (take l.n l.wants) l.m
