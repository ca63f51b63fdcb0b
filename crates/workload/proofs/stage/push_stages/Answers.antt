-- The messages of one stage more.
use Rattle.std.proofs.Common.{◌++◌, List, ℕ, ap, ◌∙◌, ◌+◌}
use Rattle.workload.specs.Stage.{stage_messages}
use Rattle.workload.proofs.StageLemmas.{stage_more}
use Rattle.workload.proofs.stage.push_stages.Goals as goal

pub loop-before-preserved : goal.loop-before-preserved
loop-before-preserved c =
    c.in_ok-push_messages.ensures
    ∙ ap (λ (ys : List ℕ). ys ++ stage_messages (c.loop-before.before + 1)) c.loop-before.invariant
    ∙ stage_more stage_messages c.args.text.now c.loop-before.before
