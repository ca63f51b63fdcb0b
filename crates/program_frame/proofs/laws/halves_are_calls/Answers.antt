-- What was prepared and then went on is a call.
use Rattle.program_frame.proofs.Replies.{call_of_halves}
use Rattle.program_frame.proofs.laws.halves_are_calls.Goals as goal

pub returns-clause-call : goal.returns-clause-call
returns-clause-call g c = λ args t prepared ending known goes. call_of_halves _ _ _ _ t prepared ending known goes
