-- One message more.
use Rattle.std.proofs.Common.{ℕ}
use Rattle.std.specs.List.{flat_map}
use Rattle.bspl_types.specs.Expansion.{message_of}
use Rattle.clause_encoding.specs.Carriers.{fresh_parameters}
use Rattle.clause_encoding.specs.Families.{fresh_clauses_of}
use Rattle.clause_encoding.proofs.AppendsLemmas.{appends_message}
use Rattle.clause_encoding.proofs.freshness.push_freshness.Goals as goal

pub loop-m-preserved : goal.loop-m-preserved
loop-m-preserved c =
    let x = c.args.x.now in
    appends_message (λ (m : ℕ). flat_map (fresh_clauses_of x c.args.vars m) (fresh_parameters (message_of x m))) _ _ _ c.loop-m.m c.loop-m.invariant c.in_ok-push_freshness_of.ensures
