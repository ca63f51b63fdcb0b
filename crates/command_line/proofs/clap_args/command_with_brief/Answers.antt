-- The option's rule is brief_arg.
use Rattle.std.proofs.Common.{◌≡◌, Some, ap, ap₂, ◌∙◌, false, codes}
use Rattle.std.proofs.lemmas.Result.{IfOk-weaker}
use Rattle.clap.specs.Words.{Rule, rule_of, with_rule}
use Rattle.clap.specs.declared.builder.action.ArgAction.TheVariants.{SetTrue}
use Rattle.clap.specs.declared.builder.arg.Arg.{Arg}
use Rattle.command_line.specs.Clap.{brief_arg}
use Rattle.command_line.proofs.clap_args.command_with_brief.Goals as goal

pub returns : goal.returns
returns c =
    let rule : rule_of c.action-brief.result ≡ brief_arg =
    ap rule_of c.action-brief.ensures ∙ ap (λ (r : Rule). record r { action = Some SetTrue }) (ap rule_of c.long.ensures ∙ ap (λ (r : Rule). record r { long = Some (codes "brief") }) c.new.ensures.rule) in
    let is_global = λ (a : Arg). a.global in
    let here : c.action-brief.result.global ≡ false = ap is_global c.action-brief.ensures ∙ ap is_global c.long.ensures ∙ c.new.ensures.optional.1 in
    IfOk-weaker c.arg.result _ _ (λ r h. h.shape here ∙ ap₂ with_rule c.bare_command.ensures rule) c.arg.ensures
