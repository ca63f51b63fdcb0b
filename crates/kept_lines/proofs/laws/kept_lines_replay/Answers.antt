-- What was kept leads to the same state, and lines have one outcome.
use Rattle.kept_lines.proofs.AnswerLemmas.{one_outcome, replays}
use Rattle.kept_lines.proofs.laws.kept_lines_replay.Goals as goal

pub returns-clause-replay : goal.returns-clause-replay
returns-clause-replay g c = λ rule. replays g.A.Responder.answers rule

pub returns-clause-once : goal.returns-clause-once
returns-clause-once g c = one_outcome g.A.Responder.answers
