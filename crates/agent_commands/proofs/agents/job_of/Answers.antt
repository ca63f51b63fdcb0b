-- The agents' text is refused, or the job has what is read.
use Rattle.agent_commands.proofs.PlayAnswers.{given_job, script_refused}
use Rattle.agent_commands.proofs.agents.job_of.Goals as goal

pub of-requires : goal.of-requires
of-requires c = record { text = c.args.part.now; plan = c.in-Ok.agents.plan; gives = c.in-Ok.ensures.ok }

pub returns-in-Ok-clause-ok : goal.returns-in-Ok-clause-ok
returns-in-Ok-clause-ok c = given_job c.args.protocol c.args.part.now c.in-Ok.agents.script c.in-Ok.agents.plan c.of.result c.of.ensures c.in-Ok.ensures.ok

pub returns-in-Err-clause-refused : goal.returns-in-Err-clause-refused
returns-in-Err-clause-refused c =
    rw (c.error_for.ensures, c.script_rejection.ensures) (script_refused c.args.protocol c.args.part.now c.in-Err.refusal (λ named. c.in-Err.ensures.refused (λ is. named (cc))))
