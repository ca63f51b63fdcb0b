-- One rule more is judged.
use Rattle.std.proofs.Common.{◌≡◌, All, refl, sym, ◌∙◌, subst, arith}
use Rattle.std.proofs.lemmas.Slice.Zip.{AllZip-long}
use Rattle.questions.specs.Subject.{IsAbout}
use Rattle.bspl_types.specs.declared.expanded.Expanded.{Expanded}
use Rattle.ask_commands.specs.AskAnswer.{asked_protocol_line}
use Rattle.ask_commands.specs.AskedRules.{IsQuestionOf}
use Rattle.ask_commands.proofs.AskedLemmas.{question_about, question_at, questions_about}
use Rattle.ask_commands.proofs.JudgedLemmas.{all_judged, none_judged, one_judged}
use Rattle.ask_commands.proofs.rules_command.judge_rules.Goals as goal

pub prepare-requires : goal.prepare-requires
prepare-requires c =
    subst (λ (x : Expanded). All (IsAbout x) c.args.questions.now) (sym c.in_ok-searches.ensures)
    (questions_about c.args.protocol.now c.args.rules.now c.args.questions.now c.requires)

pub loop-index-init : goal.loop-index-init
loop-index-init c =
    let so_far = c.in_ok-so_far.so_far in
    let line = subst (λ (x : Expanded). so_far.text ≡ asked_protocol_line x) c.expanded.ensures.same c.in_ok-so_far.ensures.text in
    (none_judged c.args.protocol.now c.args.options c.args.rules.now so_far line c.in_ok-so_far.ensures.broken c.in_ok-so_far.ensures.unjudged, c.prepare.ensures ∙ c.in_ok-searches.ensures)

pub bounds-questions-index : goal.bounds-questions-index
bounds-questions-index c = let long = AllZip-long (IsQuestionOf c.args.protocol.now) c.args.rules.now c.args.questions.now c.requires in omega (arith, long, c.loop-index-test.true)

pub answer-requires-clause-about : goal.answer-requires-clause-about
answer-requires-clause-about c =
    let about = question_about c.args.protocol.now c.args.rules.now c.args.questions.now c.loop-index.index c.index-questions-index.result c.requires c.loop-index-test.true c.index-questions-index.is in
    subst (λ (x : Expanded). IsAbout x c.index-questions-index.result) (sym c.loop-index.invariant.1) about

pub loop-index-preserved : goal.loop-index-preserved
loop-index-preserved c =
    let right = rw (c.loop-index.invariant.1, c.conflicts.ensures.same) at c.in_ok-answer.ensures.right in
    let asks = question_at c.args.protocol.now c.args.rules.now c.args.questions.now c.loop-index.index c.index-rules-index.result c.index-questions-index.result c.requires c.loop-index-test.true c.index-rules-index.is c.index-questions-index.is in
    let taken = c.in_ok-taken.ensures in (
      one_judged c.args.protocol.now c.args.options c.args.rules.now c.loop-index.index c.index-rules-index.result c.index-questions-index.result c.loop-index.so_far c.take-taken.new.self c.in_ok-answer.answer c.loop-index.invariant.0 c.loop-index-test.true (sym c.index-rules-index.is) asks right taken.text taken.broken taken.unjudged,
      c.in_ok-answer.ensures.same ∙ c.loop-index.invariant.1,
    )

pub returns : goal.returns
returns c =
    all_judged c.args.protocol.now c.args.options c.args.rules.now c.loop-index.index c.loop-index.so_far c.loop-index.so_far.text c.status.result c.loop-index.invariant.0 (omega (arith, c.loop-index-test.false, c.loop-index.auto.index-end)) refl c.status.ensures
