-- The first line that has words is no header, or no line has words.
use Rattle.std.proofs.Common.{◌≢◌, ◌<◌, ◌^◌, [], length, rules, sym, ap, subst, ◌∙◌, arith}
use Rattle.std.specs.Option.{option_copied}
use Rattle.dimacs.specs.Dimacs.{IsHeader, line_words}
use Rattle.dimacs.specs.inner.Reading.{lines_in}
use Rattle.dimacs.proofs.LineLemmas.{few_lines, header_stops, wordless_stops}
use Rattle.dimacs.proofs.header.start_of.Goals as goal

pub overflow_add-line : goal.overflow_add-line
overflow_add-line c =
    let short : length c.args.text.now < 2 ^ 63 = search rules in
    omega (arith, short, few_lines c.args.text.now, c.loop-left.invariant.counted)

pub returns-in-None-clause-err : goal.returns-in-None-clause-err
returns-in-None-clause-err c =
    let parts = ap lines_in (ap option_copied c.in-Some.is) ∙ c.split_once.ensures.parts in
    let some : line_words c.split_once.result.0.now ≢ [] = search rules in
    let none = rw c.in-None.is at c.header_of.ensures in
    header_stops _ _ c.split_once.result.0.now _ c.loop-left.line c.loop-left.invariant.passed parts some
    (λ vars clauses header. none vars clauses (subst (λ ws. IsHeader ws vars clauses) (sym c.uncommented-kept.ensures) header)) c.loop-left.invariant.counted

pub returns-clause-err : goal.returns-clause-err
returns-clause-err c =
    wordless_stops _ _ c.loop-left.line c.loop-left.invariant.passed (ap lines_in (ap option_copied c.in_default.is)) c.loop-left.invariant.counted
