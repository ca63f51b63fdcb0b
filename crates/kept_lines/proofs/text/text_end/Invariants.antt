-- What the loop over the bytes keeps.
use Rattle.std.proofs.Common.{◌≡◌, ◌≤◌, ◌++◌, drop, take}
use Rattle.kept_lines.specs.Text.{before_zero, whole_lines}
use Rattle.kept_lines.proofs.text.text_end.Given as goal

-- none of the bytes so far is 0, and the first `len` are their whole lines
abbrev pub invariant-loop-index : goal.invariant-loop-index
invariant-loop-index l = record {
  within : l.len ≤ l.index;
  lines : take l.len l.image ≡ whole_lines (take l.index l.image);
  before : before_zero l.image ≡ take l.index l.image ++ before_zero (drop l.index l.image);
}
