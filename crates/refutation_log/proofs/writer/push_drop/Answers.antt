-- The line that is whole once its numbers are written.
use Rattle.std.proofs.Common.{◌≡◌, ◌++◌, codes, ap, ◌∙◌}
use Rattle.std.proofs.lemmas.List.{append_assoc, take_all}
use Rattle.refutation_log.proofs.WritingLemmas.{drop_front, drop_line_is}
use Rattle.refutation_log.proofs.writer.push_drop.Goals as goal

pub returns : goal.returns
returns c =
    let numbers = c.args.numbers.now in
    let old = c.args.text.now in
    let front : c.loop-number.text ≡ old ++ drop_front numbers = c.loop-number.invariant ∙ ap (λ ns. old ++ drop_front ns) (take_all _ _ c.loop-number-test.false) in
    rw (← drop_line_is numbers, ← append_assoc old (drop_front numbers) (codes "\n"), ← front) c.push-2.ensures.ok
