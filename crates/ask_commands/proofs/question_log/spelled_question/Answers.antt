-- A text is a question so spelled, or not.
use Rattle.std.proofs.Common.{◌≡◌, true, sym, ◌∙◌}
use Rattle.ask_commands.proofs.CheckLemmas.{is_spelled, misread_spells_none, other_spelling}
use Rattle.ask_commands.proofs.question_log.spelled_question.Goals as goal

pub returns-in-Err-clause-exact : goal.returns-in-Err-clause-exact
returns-in-Err-clause-exact c = misread_spells_none c.one_question.ensures.exclusive c.args.x.now c.args.text.now c.in-Err.fault c.in-Err.ensures.refused c.in_ok-misread-in-Err.ensures

pub returns-then-not-are_same-clause-exact : goal.returns-then-not-are_same-clause-exact
returns-then-not-are_same-clause-exact c = other_spelling c.one_question.ensures.tree c.args.x.now c.args.text.now c.in-Ok.tree c.in-Ok.ensures.ok (λ same.
    let yes : c.are_same.result ≡ true = c.are_same.ensures.1 (c.as_slice.ensures ∙ c.in_ok-spelling.ensures ∙ same) in
    let no = c.if-not-are_same.true in
    cc)

pub returns-in-Ok-question_of-clause-exact : goal.returns-in-Ok-question_of-clause-exact
returns-in-Ok-question_of-clause-exact c = is_spelled c.args.x.now c.args.text.now c.in-Ok.tree c.in-Ok-question_of.question c.in-Ok.ensures.ok (sym c.in_ok-spelling.ensures ∙ sym c.as_slice.ensures ∙ c.are_same.ensures.0 c.if-not-are_same.false) c.in-Ok-question_of.ensures.asks
