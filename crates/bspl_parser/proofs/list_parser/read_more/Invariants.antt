-- The items that were read and those still to read make the whole list.
use Rattle.std.proofs.Common.{◌≡◌, ◌≤◌, length}
use Rattle.bspl_parser.specs.inner.GrammarParsers.{with_prefix, parse_many}
use Rattle.bspl_parser.proofs.LoopReading.{IsLoopReading}
use Rattle.bspl_parser.proofs.list_parser.read_more.Given as goal

-- the items that were read and those still to read make the whole list
abbrev pub invariant-items : goal.invariant-items
invariant-items g l =
    IsLoopReading l.kind g.T.Parse.at (with_prefix l.fn.prefix (parse_many l.kind g.T.Parse.at l.fn.stream.tokens)) l.items l.stream.tokens × (length l.stream.tokens ≤ length l.fn.stream.tokens) × (l.stream.bad_byte ≡ l.fn.stream.bad_byte)

abbrev pub decreases-items : goal.decreases-items
decreases-items g l = length l.stream.tokens
