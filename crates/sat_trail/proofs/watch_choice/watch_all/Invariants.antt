-- The clauses that were passed are watched.
use Rattle.std.proofs.Common.{◌≡◌}
use Rattle.sat_trail.specs.inner.Attach.{IsAttached}
use Rattle.sat_trail.proofs.watch_choice.watch_all.Given as goal

abbrev pub invariant-loop-clause : goal.invariant-loop-clause
invariant-loop-clause l = record {
  counted : l.number ≡ l.clause-index;
  attached : IsAttached l.set.vars l.clause-index l.clauses l.lists.cells.items l.lists.heads.items;
}
