-- What is wrong with the next line is the first fault of the text.
use Rattle.std.proofs.Common.{◌≢◌, List, ℕ, [], ◌∷◌, ◌++◌, length, sym, ap, ◌∙◌}
use Rattle.std.proofs.lemmas.Bool.{eqb-false, eqb-true}
use Rattle.run_text.proofs.FirstBad.{after_end_refused, event_more, line_refused, open_refused, run_read}
use Rattle.run_text.proofs.Separators.{other_word, same_word}
use Rattle.run_text.proofs.reader.run_after.Goals as goal

pub returns-in_default-clause-refused : goal.returns-in_default-clause-refused
returns-in_default-clause-refused c =
    let whole = rw c.in_default.is at c.split_once.ensures.whole in
    open_refused c.args.x.now c.args.text.now _ _ _ c.loop-after.invariant (rw whole c.split_once.ensures.first)

pub returns-then-is_empty-clause-ok : goal.returns-then-is_empty-clause-ok
returns-then-is_empty-clause-ok c =
    let whole = rw c.in-Some.is at c.split_once.ensures.whole in
    let ended = same_word c.split_once.result.0.now c.as_slice.result.now (sym c.eq.ensures ∙ c.if-eq.true) ∙ c.as_slice.ensures in
    let none = eqb-true _ _ (sym c.is_empty.ensures ∙ c.if-is_empty.true) in
    run_read c.args.x.now c.args.text.now _ _ _ _ c.loop-after.invariant (whole ∙ ap (λ (line : List ℕ). line ++ 10 ∷ c.in-Some.after.now) ended) none

pub returns-then-eq-clause-refused : goal.returns-then-eq-clause-refused
returns-then-eq-clause-refused c =
    let whole = rw c.in-Some.is at c.split_once.ensures.whole in
    let ended = same_word c.split_once.result.0.now c.as_slice.result.now (sym c.eq.ensures ∙ c.if-eq.true) ∙ c.as_slice.ensures in
    let some : c.in-Some.after.now ≢ [] = λ e. eqb-false _ _ (sym c.is_empty.ensures ∙ c.if-is_empty.false) (ap (length {A = ℕ}) e) in
    after_end_refused c.args.x.now c.args.text.now _ _ _ _ c.loop-after.invariant (whole ∙ ap (λ (line : List ℕ). line ++ 10 ∷ c.in-Some.after.now) ended) some

pub returns-in_default-event_of-clause-refused : goal.returns-in_default-event_of-clause-refused
returns-in_default-event_of-clause-refused c =
    let whole = rw c.in-Some.is at c.split_once.ensures.whole in
    let none = rw c.in_default-event_of.is at c.event_of.ensures in
    let other = rw c.as_slice.ensures at (other_word c.split_once.result.0.now c.as_slice.result.now (sym c.eq.ensures ∙ c.if-eq.false)) in
    line_refused c.args.x.now c.args.text.now _ _ _ _ _ c.loop-after.invariant whole c.split_once.ensures.first other none

pub loop-after-preserved : goal.loop-after-preserved
loop-after-preserved c =
    let whole = rw c.in-Some.is at c.split_once.ensures.whole in
    let read = rw c.in-Some-event_of.is at c.event_of.ensures in
    rw c.in_ok-push.ensures.ok (event_more c.args.x.now c.args.text.now _ _ _ _ _ c.in-Some-event_of.event c.loop-after.invariant whole read.0 read.1)
