-- An answer on the declared protocol is one on the input, and so is a refusal.
use Rattle.std.proofs.Common.{◌≡◌, subst}
use Rattle.std.proofs.lemmas.Result.{IfErr-weaker, IfOk-weaker, err_from_is_err_and}
use Rattle.tool_input.specs.declared.parts.Part.{Part}
use Rattle.tool_input.specs.declared.refusal.InputRefusal.TheVariants.{NoPart}
use Rattle.tool_input.specs.declared.need.Need.{Need}
use Rattle.tool_input.specs.Answer.{IsRightAnswer}
use Rattle.tool_input.specs.Error.{RejectsFor}
use Rattle.tool_input.specs.Need.{HasGiven, LacksGiven}
use Rattle.tool_input.specs.Output.{AnswersInput}
use Rattle.tool_input.specs.Refusals.{RefusesInput}
use Rattle.tool_input.proofs.InputReplies.{input_answered, input_refused, part_missing, text_refused}
use Rattle.tool_input.proofs.request.answer_input.Goals as goal

pub returns-in_err-given-clause-refused : goal.returns-in_err-given-clause-refused
returns-in_err-given-clause-refused g c =
    let p = err_from_is_err_and c.from_residual.result c.from_residual.ensures.1 in
    let rules = g.Q.Question.interface.rules (g.Q.Question.task c.args.question.now) in
    let lacks = subst (λ (needed : Need). (part : Part) × LacksGiven needed c.args.input.now part × (c.in_err-given.field-0.0 ≡ NoPart part)) c.needs.ensures c.in_err-given.ensures.refused in
    rw (p.1, p.2) (part_missing rules (g.Q.Question.name c.args.question.now) c.args.input.now c.in_err-given.field-0.0 lacks)

pub returns-in_err-protocol-clause-refused : goal.returns-in_err-protocol-clause-refused
returns-in_err-protocol-clause-refused g c =
    let p = err_from_is_err_and c.from_residual-in_err-protocol.result c.from_residual-in_err-protocol.ensures.1 in
    let rules = g.Q.Question.interface.rules (g.Q.Question.task c.args.question.now) in
    let has = subst (λ (needed : Need). HasGiven needed c.args.input.now c.in_ok-given.given.now) c.needs.ensures c.in_ok-given.ensures.ok in
    let refuses = rw (c.name.ensures, c.protocol_text.ensures) at c.in_err-protocol.ensures.refused in
    rw (p.1, p.2) (text_refused rules (g.Q.Question.name c.args.question.now) c.args.input.now c.in_ok-given.given.now c.in_err-protocol.field-0.0 has refuses)

pub returns-clause-ok : goal.returns-clause-ok
returns-clause-ok g c =
    let x = c.in_ok-protocol.protocol in
    let given = c.in_ok-given.given.now in
    let name = g.Q.Question.name c.args.question.now in
    let rules = g.Q.Question.interface.rules (g.Q.Question.task c.args.question.now) in
    let has = subst (λ (needed : Need). HasGiven needed c.args.input.now given) c.needs.ensures c.in_ok-given.ensures.ok in
    let declares = rw (c.name.ensures, c.protocol_text.ensures) at c.in_ok-protocol.ensures.ok in
    IfOk-weaker c.answer.result (IsRightAnswer g.Q.Question.completes (rules.answers x given)) (IsRightAnswer g.Q.Question.completes (AnswersInput rules name c.args.input.now))
    (λ a. input_answered g.Q.Question.completes rules name c.args.input.now given x a has declares) c.answer.ensures.ok

pub returns-clause-refused : goal.returns-clause-refused
returns-clause-refused g c =
    let x = c.in_ok-protocol.protocol in
    let given = c.in_ok-given.given.now in
    let name = g.Q.Question.name c.args.question.now in
    let rules = g.Q.Question.interface.rules (g.Q.Question.task c.args.question.now) in
    let has = subst (λ (needed : Need). HasGiven needed c.args.input.now given) c.needs.ensures c.in_ok-given.ensures.ok in
    let declares = rw (c.name.ensures, c.protocol_text.ensures) at c.in_ok-protocol.ensures.ok in
    IfErr-weaker c.answer.result (RejectsFor (rules.refuses x given)) (RejectsFor (RefusesInput rules name c.args.input.now))
    (λ e. input_refused rules name c.args.input.now given x e has declares) c.answer.ensures.refused
