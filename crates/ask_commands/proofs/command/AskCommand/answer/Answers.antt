-- The answer is that of the command.
use Rattle.ask_commands.proofs.command.AskCommand.answer.Goals as goal

pub returns-in-Put-clause-ok : goal.returns-in-Put-clause-ok
returns-in-Put-clause-ok c = rw c.in-Put.is c.ask.ensures.ok

pub returns-in-Check-clause-ok : goal.returns-in-Check-clause-ok
returns-in-Check-clause-ok c = rw c.in-Check.is c.check.ensures.ok

pub returns-in-Check-clause-refused : goal.returns-in-Check-clause-refused
returns-in-Check-clause-refused c = rw c.in-Check.is c.check.ensures.refused

pub returns-in-Judge-clause-ok : goal.returns-in-Judge-clause-ok
returns-in-Judge-clause-ok c = rw c.in-Judge.is c.judge.ensures.ok

pub returns-in-Judge-clause-refused : goal.returns-in-Judge-clause-refused
returns-in-Judge-clause-refused c = rw c.in-Judge.is c.judge.ensures.refused
