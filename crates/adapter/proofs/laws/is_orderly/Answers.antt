-- The laws on scripts, at the job's script.
use Rattle.std.proofs.Common.{subst}
use Rattle.agent_scripts.specs.Fitting.{IsFittingScript}
use Rattle.agent_scripts.specs.Script.{Script}
use Rattle.adapter.proofs.laws.is_orderly.Goals as goal

pub returns : goal.returns
returns c =
    let job = c.args.job.now in
    record {
      script_is = c.script.ensures.fits;
      fits = c.scripts_fit.ensures job.protocol job.script c.script.ensures.fits;
      orders = c.orders_are_distinct.ensures job.protocol job.script c.script.ensures.fits;
      fitting = subst (λ (s : Script). IsFittingScript s.keys s.rules) c.script.ensures.same c.count.ensures.fits;
    }
