-- The line of an input that is too long is an output.
use Rattle.std.proofs.Common.{◌≡◌, ◌<◌, ℕ, List, length}
use Rattle.std.proofs.lemmas.Result.{IfOk-weaker}
use Rattle.program_frame.specs.declared.reply.Reply.{Reply}
use Rattle.dimacs.specs.declared.status.Status.{Status}
use Rattle.dimacs.specs.declared.status.Status.TheVariants as status
use Rattle.dimacs.specs.Output.{DimacsOutput, dimacs_input_limit, refused_length}
use Rattle.dimacs.proofs.ReplyLemmas.{long_output}
use Rattle.dimacs.proofs.request.RequestProgram.too_long.Goals as goal

pub returns : goal.returns
returns c =
    λ args request asks. IfOk-weaker c.too_long.result (λ (r : Reply Status). (r.text ≡ refused_length) × (r.status ≡ status.Refused)) (λ (r : Reply Status). (bytes : List ℕ) → dimacs_input_limit < length bytes → DimacsOutput args bytes r.text r.status)
    (λ r is bytes long. long_output args bytes r.text r.status asks long is.0 is.1) c.too_long.ensures
