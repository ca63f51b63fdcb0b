-- One message more.
use Rattle.std.proofs.Common.{ℕ, map}
use Rattle.bspl_types.specs.Expansion.{message_of}
use Rattle.clause_encoding.specs.Carriers.{in_parameters}
use Rattle.clause_encoding.specs.Families.{premise_clause}
use Rattle.clause_encoding.proofs.AppendsLemmas.{appends_message}
use Rattle.clause_encoding.proofs.premises.push_premises.Goals as goal

pub loop-m-preserved : goal.loop-m-preserved
loop-m-preserved c =
    let x = c.args.x.now in
    appends_message (λ (m : ℕ). map (premise_clause x c.args.vars m) (in_parameters (message_of x m))) _ _ _ c.loop-m.m c.loop-m.invariant c.in_ok-push_premises_of.ensures
