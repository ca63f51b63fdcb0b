-- A line that puts a question leaves the store, and each other is a live role's.
use Rattle.role_questions.proofs.AskedLawLemmas.{asked_lines, asked_outcomes}
use Rattle.role_questions.proofs.laws.asked_replies_are_determined.Goals as goal

pub returns-clause-outcomes : goal.returns-clause-outcomes
returns-clause-outcomes c = asked_outcomes c.live_replies_are_determined.ensures.once

pub returns-clause-keeps : goal.returns-clause-keeps
returns-clause-keeps c = asked_lines c.live_replies_are_determined.ensures.keeps
