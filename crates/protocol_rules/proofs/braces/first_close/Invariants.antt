-- The tokens that were passed over are no closing braces.
use Rattle.std.proofs.Common.{◌≡◌, drop}
use Rattle.protocol_rules.specs.Braces.{first_close}
use Rattle.protocol_rules.proofs.braces.first_close.Given as goal

abbrev pub invariant-loop-token : goal.invariant-loop-token
invariant-loop-token l = first_close (drop l.token-index l.tokens) ≡ first_close l.tokens
