-- What the code holds of the arguments, as the definitions see it.
use Rattle.std.specs.Prelude.{◌++◌, if◌then◌else◌}
use Rattle.std.specs.Option.{option_copied, option_to_list}
use Rattle.command_line.specs.declared.raw_args.RawArgs.{RawArgs}
use Rattle.command_line.specs.ParsedArgs.{ParsedArgs}

-- what is parsed
abbrev pub parsed_of : RawArgs → ParsedArgs
parsed_of given = record {
  briefs = if given.brief then 1 else 0;
  conflicts = option_to_list (option_copied given.conflicts);
  threads = option_to_list (option_copied given.threads);
  positional =
      option_to_list (option_copied given.command) ++ option_to_list (option_copied given.name);
}
