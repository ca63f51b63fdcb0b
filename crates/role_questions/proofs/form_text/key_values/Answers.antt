-- A key without further values.
use Rattle.std.proofs.Common.{drop, sym, ◌∙◌}
use Rattle.std.proofs.lemmas.List.{nil_from_length}
use Rattle.role_questions.proofs.WrittenLemmas.{nothing_left}
use Rattle.role_questions.proofs.form_text.key_values.Goals as goal

pub returns-in_default : goal.returns-in_default
returns-in_default c =
    let l = c.loop-param in
    let none = nil_from_length l.left.now (rw c.in_default.is at c.split_first.ensures.cases) in
    sym (nothing_left (drop l.param-index c.args.keys.now) l.left.now l.list none) ∙ l.invariant
