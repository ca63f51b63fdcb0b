-- The answer with the options that the arguments give is an output, and so is the usage line to invalid ones.
use Rattle.std.proofs.Common.{◌≡◌}
use Rattle.std.proofs.lemmas.Result.{IfOk-weaker}
use Rattle.program_frame.specs.declared.reply.Reply.{Reply}
use Rattle.dimacs.specs.declared.status.Status.{Status}
use Rattle.dimacs.specs.declared.status.Status.TheVariants as status
use Rattle.dimacs.specs.Output.{Decides, DimacsOutput, dimacs_usage, read}
use Rattle.dimacs.proofs.ReplyLemmas.{usage_output}
use Rattle.dimacs.proofs.request.RequestProgram.reply_to.Goals as goal

pub returns-in-Some : goal.returns-in-Some
returns-in-Some c =
    λ args request. let has = (rw c.in-Some.is at request).0 in
    IfOk-weaker c.decided.result (λ (r : Reply Status). Decides c.in-Some.options c.args.input r.text r.status) (λ (r : Reply Status). DimacsOutput args c.args.input r.text r.status)
    (λ r decides. read c.in-Some.options r.text r.status has decides) c.decided.ensures

pub returns-in-None : goal.returns-in-None
returns-in-None c =
    λ args request. let invalid = rw c.in-None.is at request in
    IfOk-weaker c.usage.result (λ (r : Reply Status). (r.text ≡ dimacs_usage) × (r.status ≡ status.Usage)) (λ (r : Reply Status). DimacsOutput args c.args.input r.text r.status)
    (λ r said. usage_output args c.args.input r.text r.status invalid said.0 said.1) c.usage.ensures
