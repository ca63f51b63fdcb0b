-- What has been copied.
use Rattle.std.proofs.Common.{◌≡◌, ◌++◌, take}
use Rattle.order_axioms.specs.Order.{order_list}
use Rattle.enactability.proofs.plain.all_stored.Given as goal

-- the clauses of the order, and the stored ones before this one
abbrev pub invariant-loop-clause : goal.invariant-loop-clause
invariant-loop-clause l = l.clauses ≡ order_list l.f.order ++ take l.clause-index l.f.stored.clauses
