-- The line that is whole once its end is written.
use Rattle.std.proofs.Common.{◌≡◌, ◌++◌, refl, subst, OnOk, codes}
use Rattle.dimacs.specs.AnswerText.{count_text}
use Rattle.dimacs.proofs.Appended.{then_more}
use Rattle.dimacs.proofs.answer_text.push_stats.Goals as goal

pub returns : goal.returns
returns c =
    let old = c.args.text.now in
    let conflicts = count_text (codes "c conflicts ") c.args.stats.conflicts in
    let decisions = count_text (codes " decisions ") c.args.stats.decisions in
    let propagations = count_text (codes " propagations ") c.args.stats.propagations in
    let two = then_more old conflicts decisions c.in_ok-push_count.ensures c.in_ok-push_count-2.ensures in
    let three = then_more old (conflicts ++ decisions) propagations two c.in_ok-push_count-3.ensures in
    subst (λ text. OnOk c.push.result (c.push.new.self ≡ text)) (then_more old (conflicts ++ decisions ++ propagations) (codes "\n") three refl) c.push.ensures.ok
