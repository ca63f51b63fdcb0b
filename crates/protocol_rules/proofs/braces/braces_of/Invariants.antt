-- The braces so far, and those that are left, are all.
use Rattle.std.proofs.Common.{◌≡◌, ◌++◌, drop}
use Rattle.protocol_rules.specs.Braces.{braces_of}
use Rattle.protocol_rules.proofs.braces.braces_of.Given as goal

abbrev pub invariant-loop-index : goal.invariant-loop-index
invariant-loop-index l = l.all ++ braces_of l.name (drop l.index l.tokens) ≡ braces_of l.name l.tokens
