-- The last span is that of the new clause.
use Rattle.std.proofs.Common.{◌∙◌, arith}
use Rattle.sat_trail.proofs.FlatLemmas.{clauses_at-push}
use Rattle.sat_trail.proofs.flat_clauses.FlatClauses.push.Goals as goal

pub returns-clause-ok : goal.returns-clause-ok
returns-clause-ok c = rw (← c.self.view_is)
    (clauses_at-push c.self.inside.lits.items _ c.lits-lits.result.now c.args.c.now c.self.inside.spans.items _ c.len-start.result c.saturating_add-end.result (c.len-start.ensures ∙ c.self.inside.lits.ok.0) (omega (arith, c.saturating_add-end.ensures)) c.lits-lits.ensures.same c.in_ok-append.ensures.ok c.in_default.ensures.items c.self.invariant)
