-- The lines that are whole once the last is written.
use Rattle.std.proofs.Common.{◌≡◌, ◌++◌, refl, subst, OnOk, codes}
use Rattle.dimacs.specs.AnswerText.{value_lines}
use Rattle.dimacs.proofs.Appended.{then_more}
use Rattle.dimacs.proofs.answer_text.push_assignment.Goals as goal

pub returns : goal.returns
returns c =
    let old = c.args.text.now in
    let first = codes "s SATISFIABLE\n" in
    let values = value_lines 0 c.args.assignment.now in
    let two = then_more old first values c.in_ok-append.ensures.ok c.in_ok-push_values.ensures in
    subst (λ text. OnOk c.append-2.result (c.append-2.new.self ≡ text)) (then_more old (first ++ values) (codes "v 0\n") two refl) c.append-2.ensures.ok
