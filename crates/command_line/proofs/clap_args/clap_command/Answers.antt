-- Both positional arguments have the rules of cli_app.
use Rattle.std.proofs.Common.{ap₂, ◌∙◌}
use Rattle.std.proofs.lemmas.Result.{IfOk-weaker}
use Rattle.clap.specs.Words.{with_rule}
use Rattle.command_line.proofs.clap_args.clap_command.Goals as goal

pub returns : goal.returns
returns c =
    let one = c.in_ok-with_command.ensures.shape c.new-command.ensures.optional.1 ∙ ap₂ with_rule c.in_ok-with_options.ensures c.new-command.ensures.rule in
    IfOk-weaker c.arg-2.result _ _ (λ r h. h.shape c.new-name.ensures.optional.1 ∙ ap₂ with_rule one c.new-name.ensures.rule) c.arg-2.ensures
