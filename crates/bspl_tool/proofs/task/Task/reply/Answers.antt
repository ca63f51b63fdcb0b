-- What a command replies or refuses is by its own rules.
use Rattle.bspl_tool.proofs.task.Task.reply.Goals as goal

pub returns-in_ok-expand-in-Expand-clause-ok : goal.returns-in_ok-expand-in-Expand-clause-ok
returns-in_ok-expand-in-Expand-clause-ok c = rw c.in-Expand.is c.in_ok-expand-in-Expand.ensures

pub returns-in_ok-verify-in-Verify-clause-ok : goal.returns-in_ok-verify-in-Verify-clause-ok
returns-in_ok-verify-in-Verify-clause-ok c = rw c.in-Verify.is c.in_ok-verify-in-Verify.ensures

pub returns-in_ok-dead-in-Dead-clause-ok : goal.returns-in_ok-dead-in-Dead-clause-ok
returns-in_ok-dead-in-Dead-clause-ok c = rw c.in-Dead.is c.in_ok-dead-in-Dead.ensures

pub returns-in-Check-clause-ok : goal.returns-in-Check-clause-ok
returns-in-Check-clause-ok c = rw c.in-Check.is c.check.ensures.ok

pub returns-in-Check-clause-refused : goal.returns-in-Check-clause-refused
returns-in-Check-clause-refused c = rw c.in-Check.is c.check.ensures.refused

pub returns-in-CheckDead-clause-ok : goal.returns-in-CheckDead-clause-ok
returns-in-CheckDead-clause-ok c = rw c.in-CheckDead.is c.check_dead.ensures.ok

pub returns-in-CheckDead-clause-refused : goal.returns-in-CheckDead-clause-refused
returns-in-CheckDead-clause-refused c = rw c.in-CheckDead.is c.check_dead.ensures.refused

pub returns-in-Replay-clause-ok : goal.returns-in-Replay-clause-ok
returns-in-Replay-clause-ok c = rw c.in-Replay.is c.replay.ensures.ok

pub returns-in-Replay-clause-refused : goal.returns-in-Replay-clause-refused
returns-in-Replay-clause-refused c = rw c.in-Replay.is c.replay.ensures.refused

pub returns-in-Audit-clause-ok : goal.returns-in-Audit-clause-ok
returns-in-Audit-clause-ok c = rw c.in-Audit.is c.audit.ensures.ok

pub returns-in-Audit-clause-refused : goal.returns-in-Audit-clause-refused
returns-in-Audit-clause-refused c = rw c.in-Audit.is c.audit.ensures.refused

pub returns-in-Serve-clause-ok : goal.returns-in-Serve-clause-ok
returns-in-Serve-clause-ok c = rw c.in-Serve.is c.serve.ensures.ok

pub returns-in-Serve-clause-refused : goal.returns-in-Serve-clause-refused
returns-in-Serve-clause-refused c = rw c.in-Serve.is c.serve.ensures.refused
