-- One rule more is shown.
use Rattle.std.proofs.Common.{All, sym, ◌∙◌, subst, arith}
use Rattle.std.proofs.lemmas.Slice.Zip.{AllZip-long}
use Rattle.ask_commands.specs.AskedRules.{IsQuestionOf}
use Rattle.bspl_types.specs.declared.expanded.Expanded.{Expanded}
use Rattle.questions.specs.Subject.{IsAbout}
use Rattle.page_sections.proofs.RuleLemmas.{all_shown, none_shown, one_shown, question_about, question_at, questions_about}
use Rattle.page_sections.proofs.rules.push_judged.Goals as goal

pub prepare-requires : goal.prepare-requires
prepare-requires c =
    subst (λ (x : Expanded). All (IsAbout x) c.args.questions.now) (sym c.in_ok-searches.ensures)
    (questions_about c.args.a.now c.args.rules.now c.args.questions.now c.requires.questions)

pub loop-index-init : goal.loop-index-init
loop-index-init c = (none_shown c.args.a.now c.args.conflicts c.args.rules.now c.args.text.now, c.prepare.ensures ∙ c.in_ok-searches.ensures)

pub bounds-questions-index : goal.bounds-questions-index
bounds-questions-index c = let long = AllZip-long (IsQuestionOf c.args.a.now) c.args.rules.now c.args.questions.now c.requires.questions in omega (arith, long, c.loop-index-test.true)

pub answer-requires-clause-about : goal.answer-requires-clause-about
answer-requires-clause-about c =
    let about = question_about c.args.a.now c.args.rules.now c.args.questions.now c.loop-index.index c.index-questions-index.result c.requires.questions c.loop-index-test.true c.index-questions-index.is in
    subst (λ (x : Expanded). IsAbout x c.index-questions-index.result) (sym c.loop-index.invariant.1) about

pub loop-index-preserved : goal.loop-index-preserved
loop-index-preserved c =
    let right = rw c.loop-index.invariant.1 at c.in_ok-answer.ensures.right in
    let asks = question_at c.args.a.now c.args.rules.now c.args.questions.now c.loop-index.index c.index-rules-index.result c.index-questions-index.result c.requires.questions c.loop-index-test.true c.index-rules-index.is c.index-questions-index.is in (
      one_shown c.args.a.now c.args.conflicts c.args.rules.now c.loop-index.index c.index-rules-index.result c.index-questions-index.result c.in_ok-answer.answer c.args.text.now c.loop-index.text c.push_rule-pushed.new.text c.loop-index.invariant.0 c.loop-index-test.true (sym c.index-rules-index.is) asks right c.in_ok-pushed.ensures,
      c.in_ok-answer.ensures.same ∙ c.loop-index.invariant.1,
    )

pub returns : goal.returns
returns c = all_shown c.args.a.now c.args.conflicts c.args.rules.now c.loop-index.index c.args.text.now c.loop-index.text c.loop-index.invariant.0 (omega (arith, c.loop-index-test.false, c.loop-index.auto.index-end))
