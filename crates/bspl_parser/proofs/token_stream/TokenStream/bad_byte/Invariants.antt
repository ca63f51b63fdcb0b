-- The byte at which no token begins stays the same.
use Rattle.std.proofs.Common.{◌≡◌, length}
use Rattle.bspl_parser.proofs.token_stream.TokenStream.bad_byte.Given as goal

-- the scan ends as it did before
abbrev pub invariant-rest : goal.invariant-rest
invariant-rest l = l.self.bad_byte ≡ l.fn.self.bad_byte

abbrev pub decreases-rest : goal.decreases-rest
decreases-rest l = length l.self.tokens
