-- What is made so far is a run.
use Rattle.bspl_types.specs.History.{IsRun}
use Rattle.message_fates.proofs.played_run.run_of.Given as goal

-- the instances of the events so far fit
abbrev pub invariant-loop-message : goal.invariant-loop-message
invariant-loop-message l = IsRun l.protocol l.run
