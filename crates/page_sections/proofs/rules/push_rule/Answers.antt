-- The sentence, and then the run.
use Rattle.std.proofs.lemmas.Result.{on_ok_weaker}
use Rattle.question_text.specs.Tree.{phrase_of}
use Rattle.page_sections.specs.RulesSection.{answer_run, rule_sentence}
use Rattle.page_sections.proofs.GroupLemmas.{then_written}
use Rattle.page_sections.proofs.rules.push_rule.Goals as goal

pub returns : goal.returns
returns c =
    let rule = c.args.rule.now in
    let answer = c.args.answer.now in
    on_ok_weaker c.push_answer_run.result (then_written c.args.text.now c.push_sentence.new.text c.push_answer_run.new.text (rule_sentence rule.sense (phrase_of rule.question) answer) (answer_run c.args.a.now answer) c.in_ok-push_sentence.ensures) c.push_answer_run.ensures
