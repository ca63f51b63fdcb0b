-- What was read of the lines.
use Rattle.std.proofs.Common.{◌+◌, ◌≤◌, length}
use Rattle.agent_scripts.specs.Lines.{script_lines}
use Rattle.script_text.proofs.ReadingLemmas.{AreLinesRead}
use Rattle.script_text.proofs.reader.read_lines.Given as goal

abbrev pub invariant-lines : goal.invariant-lines
invariant-lines l = record {
  read : AreLinesRead l.x l.text (script_lines l.left) l.statements l.number;
  room : l.number + length l.left ≤ length l.text + 1;
}

-- the bytes that are left
abbrev pub decreases-lines : goal.decreases-lines
decreases-lines l = length l.left
