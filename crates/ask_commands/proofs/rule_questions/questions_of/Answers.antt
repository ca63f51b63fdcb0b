-- Each rule has its question, or the first that has none is refused.
use Rattle.std.proofs.Common.{subst}
use Rattle.std.proofs.lemmas.Result.{err_from_is_err_and}
use Rattle.protocol_rules.specs.declared.rule.Rule.{Rule}
use Rattle.question_text.specs.Tree.{phrase_of}
use Rattle.tool_input.specs.Error.{RejectsFor}
use Rattle.ask_commands.specs.AskAnswer.{IsAskRefused}
use Rattle.ask_commands.specs.AskedRules.{IsQuestionOf}
use Rattle.ask_commands.proofs.AskedLemmas.{question_more, rule_refused}
use Rattle.ask_commands.proofs.rule_questions.questions_of.Goals as goal

pub returns-in_err-question-clause-refused : goal.returns-in_err-question-clause-refused
returns-in_err-question-clause-refused c =
    let p = err_from_is_err_and c.from_residual.result c.from_residual.ensures.1 in
    rw (p.1, p.2) (rule_refused c.args.x.now c.args.rules.now c.loop-rule.rule-index c.rule-item.result c.loop-rule.questions c.in_err-question.field-0.0 c.loop-rule.invariant c.loop-rule-test.true (subst (λ (r : Rule). RejectsFor (IsAskRefused c.args.x.now (phrase_of r.question)) c.in_err-question.field-0.0) c.rule-item.is c.in_err-question.ensures.refused))

pub loop-rule-preserved : goal.loop-rule-preserved
loop-rule-preserved c = rw c.in_ok-push.ensures.ok (question_more c.args.x.now c.args.rules.now c.loop-rule.rule-index c.rule-item.result c.loop-rule.questions c.in_ok-question.question c.loop-rule.invariant c.loop-rule-test.true (subst (λ (r : Rule). IsQuestionOf c.args.x.now r c.in_ok-question.question) c.rule-item.is (record { means = c.in_ok-question.ensures.means; about = c.in_ok-question.ensures.about })))
