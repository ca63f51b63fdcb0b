-- What is wrong with the next line is the first fault of the text.
use Rattle.std.proofs.Common.{◌≢◌, List, ℕ, [], ◌∷◌, ◌++◌, length, sym, ap, ◌∙◌}
use Rattle.std.proofs.lemmas.Bool.{eqb-false, eqb-true}
use Rattle.history_audit.specs.HistoryText.{head_line}
use Rattle.history_audit.proofs.ReadingLemmas.{after_end_refused, line_more, line_refused, no_sections, open_refused, other_word, read_are_histories, same_word, text_read}
use Rattle.history_audit.proofs.reader.read_sections.Goals as goal

pub lines-init : goal.lines-init
lines-init c = rw c.new-sections.ensures (no_sections c.args.x.now c.args.text.now)

pub returns-in_default-clause-refused : goal.returns-in_default-clause-refused
returns-in_default-clause-refused c =
    let whole = rw c.in_default.is at c.split_once.ensures.whole in
    open_refused c.args.x.now c.args.text.now _ _ _ c.lines.invariant (rw whole c.split_once.ensures.first)

pub returns-then-is_empty-clause-ok : goal.returns-then-is_empty-clause-ok
returns-then-is_empty-clause-ok c =
    let whole = rw c.in-Some.is at c.split_once.ensures.whole in
    let ended = same_word c.split_once.result.0.now c.as_slice.result.now (sym c.eq.ensures ∙ c.if-eq.true) ∙ c.as_slice.ensures in
    let none = eqb-true _ _ (sym c.is_empty.ensures ∙ c.if-is_empty.true) in
    text_read c.args.x.now c.args.text.now _ _ _ _ c.in_ok-histories.histories c.lines.invariant (whole ∙ ap (λ (line : List ℕ). line ++ 10 ∷ c.in-Some.after.now) ended) none c.in_ok-histories.ensures

pub returns-then-is_empty-clause-histories : goal.returns-then-is_empty-clause-histories
returns-then-is_empty-clause-histories c =
    let whole = rw c.in-Some.is at c.split_once.ensures.whole in
    let ended = same_word c.split_once.result.0.now c.as_slice.result.now (sym c.eq.ensures ∙ c.if-eq.true) ∙ c.as_slice.ensures in
    let none = eqb-true _ _ (sym c.is_empty.ensures ∙ c.if-is_empty.true) in
    read_are_histories c.args.x.now (head_line ++ c.args.text.now) c.in_ok-histories.histories
    (text_read c.args.x.now c.args.text.now _ _ _ _ c.in_ok-histories.histories c.lines.invariant (whole ∙ ap (λ (line : List ℕ). line ++ 10 ∷ c.in-Some.after.now) ended) none c.in_ok-histories.ensures)

pub returns-then-eq-clause-refused : goal.returns-then-eq-clause-refused
returns-then-eq-clause-refused c =
    let whole = rw c.in-Some.is at c.split_once.ensures.whole in
    let ended = same_word c.split_once.result.0.now c.as_slice.result.now (sym c.eq.ensures ∙ c.if-eq.true) ∙ c.as_slice.ensures in
    let some : c.in-Some.after.now ≢ [] = λ e. eqb-false _ _ (sym c.is_empty.ensures ∙ c.if-is_empty.false) (ap (length {A = ℕ}) e) in
    after_end_refused c.args.x.now c.args.text.now _ _ _ _ c.lines.invariant (whole ∙ ap (λ (line : List ℕ). line ++ 10 ∷ c.in-Some.after.now) ended) some

pub returns-then-not-taken-clause-refused : goal.returns-then-not-taken-clause-refused
returns-then-not-taken-clause-refused c =
    let whole = rw c.in-Some.is at c.split_once.ensures.whole in
    let other = rw c.as_slice.ensures at (other_word c.split_once.result.0.now c.as_slice.result.now (sym c.eq.ensures ∙ c.if-eq.false)) in
    let breaks = rw (c.if-not-taken.true) at c.in_ok-taken.ensures in
    line_refused c.args.x.now c.args.text.now _ _ _ _ _ c.lines.invariant whole c.split_once.ensures.first other breaks

pub lines-preserved : goal.lines-preserved
lines-preserved c =
    let whole = rw c.in-Some.is at c.split_once.ensures.whole in
    let taken = rw (c.if-not-taken.false) at c.in_ok-taken.ensures in
    line_more c.args.x.now c.args.text.now _ _ _ _ _ _ c.lines.invariant whole c.split_once.ensures.first taken
