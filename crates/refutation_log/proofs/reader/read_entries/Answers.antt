-- What is wrong with the next line is the first fault of the text.
use Rattle.std.proofs.Common.{◌≢◌, List, ℕ, [], ◌∷◌, ◌++◌, length, sym, ap, ◌∙◌}
use Rattle.std.proofs.lemmas.Bool.{eqb-false}
use Rattle.refutation_log.proofs.FirstBad.{entry_more, error_refused, open_refused, after_end_refused}
use Rattle.refutation_log.proofs.LogLemmas.{none_removed}
use Rattle.refutation_log.proofs.reader.read_entries.Goals as goal

pub returns-in_default-clause-refused : goal.returns-in_default-clause-refused
returns-in_default-clause-refused c = λ kind.
    let whole = rw c.in_default.is at c.split_once.ensures.whole in
    open_refused c.args.version kind c.args.text.now _ _ _ c.loop-after.invariant (rw whole c.split_once.ensures.first)

pub returns-in-Ok-End-2-clause-refused : goal.returns-in-Ok-End-2-clause-refused
returns-in-Ok-End-2-clause-refused c = λ kind.
    let whole = rw c.in-Some.is at c.split_once.ensures.whole in
    let ended = (rw c.in-Ok-End.field-0-is at c.in-Ok-End.ensures).1 in
    let some : c.in-Some.after.now ≢ [] = λ e. eqb-false _ _ (sym c.is_empty.ensures ∙ c.if-is_empty.false) (ap (length {A = ℕ}) e) in
    after_end_refused c.args.version kind c.args.text.now _ _ _ _ c.loop-after.invariant (whole ∙ ap (λ (line : List ℕ). line ++ 10 ∷ c.in-Some.after.now) ended) some

pub returns-in-Err-clause-refused : goal.returns-in-Err-clause-refused
returns-in-Err-clause-refused c = λ kind.
    let whole = rw c.in-Some.is at c.split_once.ensures.whole in
    rw c.at.ensures (error_refused c.args.version kind c.args.text.now _ _ _ _ _ _ c.loop-after.invariant whole c.split_once.ensures.first c.in-Err.ensures)

pub returns-in-Ok-End-clause-allowed : goal.returns-in-Ok-End-clause-allowed
returns-in-Ok-End-clause-allowed c = none_removed c.args.version c.loop-after.log c.loop-after.invariant.stand

pub loop-after-preserved : goal.loop-after-preserved
loop-after-preserved c =
    let whole = rw c.in-Some.is at c.split_once.ensures.whole in
    let read = rw c.in-Ok-Entry.field-0-is at c.in-Ok-Entry.ensures in
    rw c.in_ok-push_entry-in-Ok-Entry.ensures.entries (entry_more c.args.version c.args.text.now _ _ _ _ _ c.in-Ok-Entry.entry c.loop-after.invariant whole read)
