-- The bytes so far are all letters.
use Rattle.std.proofs.Common.{◌≡◌, ◌+◌, drop}
use Rattle.std.specs.List.{prefix_len}
use Rattle.std.specs.Char.{is_ascii_alphabetic}
use Rattle.protocol_rules.proofs.rule.letters_len.Given as goal

abbrev pub invariant-loop-index : goal.invariant-loop-index
invariant-loop-index l = l.index + prefix_len is_ascii_alphabetic (drop l.index l.bytes) ≡ prefix_len is_ascii_alphabetic l.bytes
