-- The answer is that of the command.
use Rattle.more_commands.proofs.command.MoreCommand.answer.Goals as goal

pub returns-in-Ask-clause-ok : goal.returns-in-Ask-clause-ok
returns-in-Ask-clause-ok c = rw c.in-Ask.is c.answer.ensures.ok

pub returns-in-Ask-clause-refused : goal.returns-in-Ask-clause-refused
returns-in-Ask-clause-refused c = rw c.in-Ask.is c.answer.ensures.refused

pub returns-in-Formula-clause-ok : goal.returns-in-Formula-clause-ok
returns-in-Formula-clause-ok c = rw c.in-Formula.is c.formula.ensures.ok

pub returns-in-Lrat-clause-ok : goal.returns-in-Lrat-clause-ok
returns-in-Lrat-clause-ok c = rw c.in-Lrat.is c.lrat.ensures.ok

pub returns-in-Lrat-clause-refused : goal.returns-in-Lrat-clause-refused
returns-in-Lrat-clause-refused c = rw c.in-Lrat.is c.lrat.ensures.refused

pub returns-in-Page-clause-ok : goal.returns-in-Page-clause-ok
returns-in-Page-clause-ok c = rw c.in-Page.is c.page.ensures.ok

pub returns-in-Page-clause-refused : goal.returns-in-Page-clause-refused
returns-in-Page-clause-refused c = rw c.in-Page.is c.page.ensures.refused

pub returns-in-Explain-clause-ok : goal.returns-in-Explain-clause-ok
returns-in-Explain-clause-ok c = rw c.in-Explain.is c.explain.ensures.ok

pub returns-in-Explain-clause-refused : goal.returns-in-Explain-clause-refused
returns-in-Explain-clause-refused c = rw c.in-Explain.is c.explain.ensures.refused

pub returns-in-ExplainAsk-clause-ok : goal.returns-in-ExplainAsk-clause-ok
returns-in-ExplainAsk-clause-ok c = rw c.in-ExplainAsk.is c.explain_asked.ensures.ok

pub returns-in-ExplainAsk-clause-refused : goal.returns-in-ExplainAsk-clause-refused
returns-in-ExplainAsk-clause-refused c = rw c.in-ExplainAsk.is c.explain_asked.ensures.refused
