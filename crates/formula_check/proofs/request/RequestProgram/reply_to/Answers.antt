-- The reply to an input is an output, and so is the usage line to invalid arguments.
use Rattle.std.proofs.Common.{sym, ◌∙◌}
use Rattle.std.proofs.lemmas.Bool.{false≢true}
use Rattle.std.proofs.lemmas.Result.{IfOk-weaker}
use Rattle.program_frame.specs.declared.reply.Reply.{Reply}
use Rattle.tool_input.specs.declared.status.Status.{Status}
use Rattle.tool_input.specs.declared.status.Status.TheVariants.{Usage}
use Rattle.formula_check.specs.Output.{CheckOutput, check_usage}
use Rattle.formula_check.specs.inner.Reply.{IsReply}
use Rattle.formula_check.proofs.ReplyLemmas.{usage_output}
use Rattle.formula_check.proofs.request.RequestProgram.reply_to.Goals as goal

pub returns-then-self : goal.returns-then-self
returns-then-self c = λ args request. rw c.as_slice.ensures at (c.check_reply.ensures args (request.0 c.if-self.true))

pub returns : goal.returns
returns c =
    λ args request. IfOk-weaker c.usage.result (IsReply check_usage Usage) (λ (r : Reply Status). CheckOutput args c.args.input r.text r.status)
    (λ r said. usage_output args c.args.input r (λ asks. false≢true (sym c.if-self.false ∙ request.1 asks)) said) c.usage.ensures
