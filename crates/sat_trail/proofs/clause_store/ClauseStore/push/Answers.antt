-- The last copy is that of the new clause.
use Rattle.std.proofs.Common.{◌++◌, append_assoc}
use Rattle.sat_trail.proofs.StoreLemmas.{copies-push}
use Rattle.sat_trail.proofs.clause_store.ClauseStore.push.Goals as goal

pub invariant_of-self-in_default : goal.invariant_of-self-in_default
invariant_of-self-in_default c = rw (c.in_ok-push.ensures.ok, c.in_default.ensures.ok, ← append_assoc)
    (copies-push c.self.inside.flat (c.self.inside.given.now ++ c.self.inside.added) c.args.c c.self.invariant)
