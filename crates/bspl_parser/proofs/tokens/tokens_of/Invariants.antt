-- The tokens that are kept are those that were taken off the scan.
use Rattle.std.proofs.Common.{◌≡◌, ◌++◌, length}
use Rattle.bspl_parser.specs.inner.Scan.{scan_from}
use Rattle.bspl_parser.proofs.tokens.tokens_of.Given as goal

-- with the tokens still to come they are all, and the bad byte stays
abbrev pub invariant-tokens : goal.invariant-tokens
invariant-tokens l =
    record {
      all : (scan_from l.text 0).tokens ≡ l.tokens ++ l.stream.tokens;
      same : l.stream.bad_byte ≡ (scan_from l.text 0).bad_byte;
    }

abbrev pub decreases-tokens : goal.decreases-tokens
decreases-tokens l = length l.stream.tokens
