-- Which arguments have been found.
use Rattle.std.proofs.Common.{◌≡◌, map, string_bytes, take}
use Rattle.ask_commands.specs.AskArguments.{of_kind}
use Rattle.ask_commands.proofs.arguments.args_of.Given as goal

-- those of the kind among the arguments so far
abbrev pub invariant-loop-arg : goal.invariant-loop-arg
invariant-loop-arg l = map (λ arg. arg.now) l.found ≡ of_kind l.kind (map string_bytes (take l.arg-index l.args))
