-- What the loop over the messages has collected.
use Rattle.std.proofs.Common.{◌≡◌}
use Rattle.std.specs.List.{filter, range_with_len}
use Rattle.bspl_types.specs.Expansion.{message_of}
use Rattle.clause_encoding.specs.Rivals.{produces}
use Rattle.clause_encoding.proofs.rivals.producers_of.Given as goal

-- the producers among the messages before this one
abbrev pub invariant-loop-m : goal.invariant-loop-m
invariant-loop-m l = l.messages ≡ filter (λ m. produces (message_of l.x m) l.param) (range_with_len 0 l.m)
