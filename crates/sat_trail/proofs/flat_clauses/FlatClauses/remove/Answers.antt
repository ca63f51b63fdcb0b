-- The span of the number ends before it starts.
use Rattle.std.proofs.Common.{◌-◌}
use Rattle.sat_trail.proofs.FlatLemmas.{clauses_at-set}
use Rattle.sat_trail.proofs.flat_clauses.FlatClauses.remove.Goals as goal

pub returns : goal.returns
returns c = rw (← c.self.view_is) (clauses_at-set c.self.inside.lits.items c.self.inside.spans.items (c.args.number - 1))
