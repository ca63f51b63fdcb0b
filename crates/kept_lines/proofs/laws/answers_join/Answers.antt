-- Lines behind lines.
use Rattle.kept_lines.proofs.AnswerLemmas.{later_lines}
use Rattle.kept_lines.proofs.laws.answers_join.Goals as goal

pub returns : goal.returns
returns g c = later_lines g.A.Responder.answers
