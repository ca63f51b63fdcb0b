-- no blank was passed over
use Rattle.std.proofs.Common.{◌≡◌, ◌+◌, drop}
use Rattle.std.specs.List.{position_or_len}
use Rattle.text_lines.specs.Fields.{is_blank}
use Rattle.text_lines.proofs.fields.field_len.Given as goal

abbrev pub invariant-loop-index : goal.invariant-loop-index
invariant-loop-index l = l.index + position_or_len is_blank (drop l.index l.line) ≡ position_or_len is_blank l.line
