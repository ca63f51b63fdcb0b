-- The literals that were passed are false, and the one that was found is open.
use Rattle.sat_trail.proofs.ChoiceLemmas.{IsSought}
use Rattle.sat_trail.proofs.watch_choice.last_left.Given as goal

abbrev pub invariant-loop-lit : goal.invariant-loop-lit
invariant-loop-lit l = IsSought l.set.entries l.level l.clause l.kept l.found l.lit-index
