-- The histories are local and explained after all steps, so they merge into a legal run.
use Rattle.restart_run.specs.Steps.{histories_after, no_events}
use Rattle.restart_run.proofs.StepLemmas.{all_explained, all_local}
use Rattle.restart_run.proofs.laws.restarts_are_legal.Goals as goal

pub returns : goal.returns
returns c = λ x steps all.
    let emission = c.extended_stay_explained.ensures.emission in
    let receipt = c.extended_stay_explained.ensures.receipt in
    let local = all_local emission receipt x steps all in
    let explained = all_explained emission receipt x steps all in
    record {
      local = local;
      explained = explained;
      merged = λ run merged. c.histories_merge.ensures x (histories_after (no_events x) steps) run local explained merged;
    }
