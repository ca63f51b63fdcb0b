-- The bytes so far are all blanks.
use Rattle.std.proofs.Common.{◌≡◌, ◌+◌, drop}
use Rattle.std.specs.List.{prefix_len}
use Rattle.bspl_parser.specs.Tokens.{is_blank_byte}
use Rattle.protocol_rules.proofs.rule_line.blanks_len.Given as goal

abbrev pub invariant-loop-index : goal.invariant-loop-index
invariant-loop-index l = l.index + prefix_len is_blank_byte (drop l.index l.bytes) ≡ prefix_len is_blank_byte l.bytes
