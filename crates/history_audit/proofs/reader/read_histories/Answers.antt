-- The first line is the head, or it is bad.
use Rattle.std.proofs.Common.{◌++◌, subst, sym, ◌∙◌}
use Rattle.std.specs.Prelude.{IfErr}
use Rattle.std.proofs.lemmas.Bool.{not-false, not-true}
use Rattle.history_audit.specs.HistoryText.{head_line}
use Rattle.history_audit.specs.Refusal.{IsRefusedText}
use Rattle.history_audit.proofs.ReadingLemmas.{head_then, no_head_refused, open_text_refused, other_word, same_word}
use Rattle.history_audit.proofs.reader.read_histories.Goals as goal

pub returns-in_default-clause-refused : goal.returns-in_default-clause-refused
returns-in_default-clause-refused c =
    let whole = rw c.in_default.is at c.split_once.ensures.whole in
    open_text_refused c.args.a.now c.args.text.now (rw whole c.split_once.ensures.first)

pub returns-then-ne-clause-refused : goal.returns-then-ne-clause-refused
returns-then-ne-clause-refused c =
    let whole = rw c.in-Some.is at c.split_once.ensures.whole in
    let other = rw c.as_slice.ensures at (other_word c.split_once.result.0.now c.as_slice.result.now (not-true _ (sym c.ne.ensures ∙ c.if-ne.true))) in
    no_head_refused c.args.a.now c.args.text.now c.split_once.result.0.now _ whole c.split_once.ensures.first other

pub returns-clause-refused : goal.returns-clause-refused
returns-clause-refused c =
    let whole = rw c.in-Some.is at c.split_once.ensures.whole in
    let same = same_word c.split_once.result.0.now c.as_slice.result.now (not-false _ (sym c.ne.ensures ∙ c.if-ne.false)) ∙ c.as_slice.ensures in
    subst (λ text. IfErr c.read_sections.result (IsRefusedText c.args.a.now text)) (head_then c.args.text.now c.split_once.result.0.now c.in-Some.rest.now whole same)
    (subst (λ x. IfErr c.read_sections.result (IsRefusedText x (head_line ++ c.in-Some.rest.now))) c.expanded.ensures.same c.read_sections.ensures.refused)
