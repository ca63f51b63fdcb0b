-- The line that is whole once its links are written.
use Rattle.std.proofs.Common.{◌≡◌, ◌++◌, codes, ap, ◌∙◌}
use Rattle.std.proofs.lemmas.List.{append_assoc, take_all}
use Rattle.refutation_log.proofs.WritingLemmas.{step_front, step_line_is}
use Rattle.refutation_log.proofs.writer.push_step.Goals as goal

pub returns : goal.returns
returns c =
    let step = c.args.step.now in
    let old = c.args.text.now in
    let front : c.loop-link.text ≡ old ++ step_front step.first step.links = c.loop-link.invariant ∙ ap (λ links. old ++ step_front step.first links) (take_all _ _ c.loop-link-test.false ∙ c.as_slice-link-items.ensures) in
    rw (← step_line_is step, ← append_assoc old (step_front step.first step.links) (codes "\n"), ← front) c.push.ensures.ok
