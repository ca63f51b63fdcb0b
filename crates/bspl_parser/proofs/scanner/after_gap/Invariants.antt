-- The scan from the offset on stays the same.
use Rattle.std.proofs.Common.{◌≡◌, ◌≤◌, ◌-◌, length}
use Rattle.bspl_parser.specs.inner.Scan.{scan_from}
use Rattle.bspl_parser.proofs.scanner.after_gap.Given as goal

-- the scan from here on is that from the start on
abbrev pub invariant-gap : goal.invariant-gap
invariant-gap l = (l.offset ≤ length l.text) × (scan_from l.text l.offset ≡ scan_from l.text l.start)

abbrev pub decreases-gap : goal.decreases-gap
decreases-gap l = length l.text - l.offset
