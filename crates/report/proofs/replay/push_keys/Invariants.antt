-- What has been written of the keys.
use Rattle.std.proofs.Common.{take}
use Rattle.report.specs.inner.KeyLines.{AppendsKeyLines}
use Rattle.report.proofs.replay.push_keys.Given as goal

-- the lines of the keys so far are written
abbrev pub invariant-loop-key : goal.invariant-loop-key
invariant-loop-key l = AppendsKeyLines l.x l.index (take l.key-index l.keys) l.fn.text l.text
