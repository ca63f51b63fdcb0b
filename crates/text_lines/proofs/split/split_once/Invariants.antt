-- What is known of the bytes so far.
use Rattle.std.proofs.Common.{take}
use Rattle.list_base.proofs.Separators.{Lacks}
use Rattle.text_lines.proofs.split.split_once.Given as goal

-- the separator is not among the bytes that were passed
abbrev pub invariant-loop-index : goal.invariant-loop-index
invariant-loop-index l = Lacks l.separator (take l.index l.bytes)
