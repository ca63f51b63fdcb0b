-- What has been written of a removal.
use Rattle.std.proofs.Common.{◌≡◌, ◌++◌, take}
use Rattle.refutation_log.proofs.WritingLemmas.{drop_front}
use Rattle.refutation_log.proofs.writer.push_drop.Given as goal

-- the numbers so far are written
abbrev pub invariant-loop-number : goal.invariant-loop-number
invariant-loop-number l = l.text ≡ l.fn.text ++ drop_front (take l.number-index l.numbers)
