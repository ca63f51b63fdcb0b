-- The emissions of the messages before this one that bind the parameter.
use Rattle.std.proofs.Common.{◌≡◌, map}
use Rattle.std.specs.List.{filter, range_with_len}
use Rattle.bspl_types.specs.Expansion.{message_of}
use Rattle.clause_encoding.specs.Carriers.{binds}
use Rattle.clause_encoding.specs.Variables.{sent}
use Rattle.question_formula.proofs.kinds.binding_kinds.Given as goal

abbrev pub invariant-loop-m : goal.invariant-loop-m
invariant-loop-m l = l.kinds ≡ map sent (filter (λ m. binds (message_of l.x m) l.param) (range_with_len 0 l.m))
