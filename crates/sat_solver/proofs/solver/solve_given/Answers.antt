-- What the search found, and the log of its steps.
use Rattle.std.proofs.Common.{◌∙◌}
use Rattle.std.proofs.lemmas.Bool.{iff_false}
use Rattle.sat_solver.proofs.SolvingLemmas.{Refutes-empty}
use Rattle.sat_solver.proofs.solver.solve_given.Goals as goal

pub returns-then-has_empty : goal.returns-then-has_empty
returns-then-has_empty c =
    Refutes-empty (record { live = c.plain_resolves.ensures.live; containing = c.plain_resolves.ensures.containing })
    c.args.f.now c.plain.result c.args.budget
    (record { same = c.plain.ensures.steps ∙ c.new.ensures; none = c.plain.ensures.removals })
    ((rw c.in_ok-clauses.ensures at c.has_empty.ensures).0 c.if-has_empty.true)

pub search_within-requires-clause-none : goal.search_within-requires-clause-none
search_within-requires-clause-none c = iff_false (rw c.in_ok-clauses.ensures at c.has_empty.ensures) c.if-has_empty.false

pub returns-in-Refuted : goal.returns-in-Refuted
returns-in-Refuted c =
    (rw c.in-Refuted.is at c.in_ok-ending.ensures) c.into_log.result (record { same = c.into_log.ensures.steps; none = c.into_log.ensures.removals })

pub returns : goal.returns
returns c =
    (rw c.in-Spent.is at c.in_ok-ending.ensures) c.into_log-in-Spent.result (record { same = c.into_log-in-Spent.ensures.steps; none = c.into_log-in-Spent.ensures.removals })
