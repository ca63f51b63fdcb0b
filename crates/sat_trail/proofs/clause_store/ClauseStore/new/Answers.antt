-- All clauses are live.
use Rattle.std.proofs.Common.{append-nil}
use Rattle.sat_trail.proofs.StoreLemmas.{copies-new}
use Rattle.sat_trail.proofs.clause_store.ClauseStore.new.Goals as goal

pub invariant_of-result : goal.invariant_of-result
invariant_of-result c = rw (c.new.ensures, c.in_ok-flattened.ensures, append-nil) (copies-new c.args.given.now)
