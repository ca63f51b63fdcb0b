-- The options and the positional arguments, as `clap` takes them.
use Rattle.std.specs.Prelude.{true, Some, codes}
use Rattle.clap.specs.Words.{App, Rule, new_rule, new_app, with_rule}
use Rattle.clap.specs.Simple.{on_top}
use Rattle.clap.specs.declared.builder.action.ArgAction.TheVariants.{SetTrue}

-- `--brief`, and the options that take a value
abbrev pub brief_arg : Rule
brief_arg = record (new_rule (codes "brief")) { long = Some (codes "brief"); action = Some SetTrue }

abbrev pub conflicts_arg : Rule
conflicts_arg = record (new_rule (codes "conflicts")) { long = Some (codes "conflicts") }

abbrev pub threads_arg : Rule
threads_arg = record (new_rule (codes "threads")) { long = Some (codes "threads") }

-- the program: no name before the arguments, and no help or version of its own
abbrev pub bare_app : App
bare_app =
    on_top (λ s. record s {
      no_binary_name = true;
      disable_help_flag = true;
      disable_version_flag = true;
    }) (new_app (codes "bspl"))

-- the options, and two positional arguments
abbrev pub cli_app : App
cli_app =
    let options = with_rule (with_rule (with_rule bare_app brief_arg) conflicts_arg) threads_arg in
    with_rule (with_rule options (new_rule (codes "command"))) (new_rule (codes "name"))
