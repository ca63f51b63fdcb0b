-- The options' rules are conflicts_arg and threads_arg.
use Rattle.std.proofs.Common.{◌≡◌, Some, ap, ap₂, ◌∙◌, false, codes}
use Rattle.std.proofs.lemmas.Result.{IfOk-weaker}
use Rattle.clap.specs.Words.{Rule, rule_of, with_rule}
use Rattle.clap.specs.declared.builder.arg.Arg.{Arg}
use Rattle.command_line.specs.Clap.{conflicts_arg, threads_arg}
use Rattle.command_line.proofs.clap_args.command_with_options.Goals as goal

pub returns : goal.returns
returns c =
    let is_global = λ (a : Arg). a.global in
    let conflicts_is : rule_of c.long-conflicts.result ≡ conflicts_arg = ap rule_of c.long-conflicts.ensures ∙ ap (λ (r : Rule). record r { long = Some (codes "conflicts") }) c.new.ensures.rule in
    let threads_is : rule_of c.long-threads.result ≡ threads_arg = ap rule_of c.long-threads.ensures ∙ ap (λ (r : Rule). record r { long = Some (codes "threads") }) c.new-2.ensures.rule in
    let conflicts_here : c.long-conflicts.result.global ≡ false = ap is_global c.long-conflicts.ensures ∙ c.new.ensures.optional.1 in
    let threads_here : c.long-threads.result.global ≡ false = ap is_global c.long-threads.ensures ∙ c.new-2.ensures.optional.1 in
    let one = c.in_ok-with_conflicts.ensures.shape conflicts_here ∙ ap₂ with_rule c.in_ok-with_brief.ensures conflicts_is in
    IfOk-weaker c.arg-2.result _ _ (λ r h. h.shape threads_here ∙ ap₂ with_rule one threads_is) c.arg-2.ensures
