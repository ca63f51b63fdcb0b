-- What the agents of a command play is by its own rules.
use Rattle.bspl_tool.proofs.task.Task.answer.Goals as goal

pub returns-in-Run-clause-ok : goal.returns-in-Run-clause-ok
returns-in-Run-clause-ok c = rw c.in-Run.is c.run.ensures.ok

pub returns-in-Run-clause-refused : goal.returns-in-Run-clause-refused
returns-in-Run-clause-refused c = rw c.in-Run.is c.run.ensures.refused

pub returns-in-Restart-clause-ok : goal.returns-in-Restart-clause-ok
returns-in-Restart-clause-ok c = rw c.in-Restart.is c.restart.ensures.ok

pub returns-in-Restart-clause-refused : goal.returns-in-Restart-clause-refused
returns-in-Restart-clause-refused c = rw c.in-Restart.is c.restart.ensures.refused

pub returns-in-Generate-clause-ok : goal.returns-in-Generate-clause-ok
returns-in-Generate-clause-ok c = rw c.in-Generate.is c.generate.ensures.ok

pub returns-in-Generate-clause-refused : goal.returns-in-Generate-clause-refused
returns-in-Generate-clause-refused c = rw c.in-Generate.is c.generate.ensures.refused
