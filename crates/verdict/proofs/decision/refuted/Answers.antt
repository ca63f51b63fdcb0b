-- The run of the assignment is the evidence.
use Rattle.std.proofs.Common.{refl}
use Rattle.clause_core.specs.Assignment.{valuation}
use Rattle.verdict.proofs.decision.refuted.Goals as goal

pub returns : goal.returns
returns c =
    record {
      run = c.in_ok-run.run';
      is_refuted = refl;
      right = record { assignment = valuation c.args.assignment.now; refutation = c.in_ok-run.ensures };
    }
