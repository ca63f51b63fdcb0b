-- What has been written of a step.
use Rattle.std.proofs.Common.{◌≡◌, ◌++◌, take}
use Rattle.refutation_log.proofs.WritingLemmas.{step_front}
use Rattle.refutation_log.proofs.writer.push_step.Given as goal

-- the links so far are written
abbrev pub invariant-loop-link : goal.invariant-loop-link
invariant-loop-link l = l.text ≡ l.fn.text ++ step_front l.step.first (take l.link-index l.link-items)
