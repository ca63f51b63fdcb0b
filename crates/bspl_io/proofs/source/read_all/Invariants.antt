-- What the loop of `read_all` keeps, and why it ends.
use Rattle.std.proofs.Common.{◌≡◌, ◌≤◌, ◌-◌, length}
use Rattle.std.specs.Io.KnownBytes.{Consumes}
use Rattle.bspl_io.proofs.source.read_all.Given as goal

-- the text is what the source handed out so far, and within the limit
abbrev pub invariant-loop-text : goal.invariant-loop-text
invariant-loop-text g l = record {
  within : length l.text ≤ l.limit;
  room : length l.piece ≡ 4096;
  consumed : Consumes (g.R.Source.remaining l.fn.source) (g.R.Source.remaining l.source) l.text;
  still : g.R.Source.faults l.source ≡ g.R.Source.faults l.fn.source;
}

-- what the limit still allows
abbrev pub decreases-loop-text : goal.decreases-loop-text
decreases-loop-text g l = l.limit - length l.text
