-- no LF was passed over
use Rattle.std.proofs.Common.{◌≡◌, ◌+◌, drop}
use Rattle.std.specs.List.{position_or_len}
use Rattle.script_text.specs.inner.LineEnd.{is_line_end}
use Rattle.script_text.proofs.lines.line_len.Given as goal

abbrev pub invariant-loop-index : goal.invariant-loop-index
invariant-loop-index l = l.index + position_or_len is_line_end (drop l.index l.text) ≡ position_or_len is_line_end l.text
