-- Header, lines and clauses make the formula of the text, or there is none.
use Rattle.std.proofs.Common.{◌≡◌, ◌≢◌, ◌<◌, ◌^◌, List, [], length, rules, subst, arith}
use Rattle.clause_core.specs.declared.literal.Lit.{Lit}
use Rattle.dimacs.specs.inner.Reading.{AreClauses}
use Rattle.dimacs.proofs.TokenLemmas.{formula_read}
use Rattle.dimacs.proofs.FormulaLemmas.{no_end, open_clause, other_count, variables_within}
use Rattle.dimacs.proofs.ReadingLemmas.{empty_list, handed_on, none_is_some}
use Rattle.dimacs.proofs.LineLemmas.{all_read, few_lines, end_stops}
use Rattle.dimacs.proofs.Causes.{start_cause, words_cause}
use Rattle.dimacs.proofs.lines.formula_of.Goals as goal

pub returns-in_err-start-clause-err : goal.returns-in_err-start-clause-err
returns-in_err-start-clause-err c =
    handed_on _ _ _ c.from_residual.ensures.1 (start_cause c.args.text.now _ c.in_err-start.ensures.err)

pub body_of-requires-clause-short : goal.body_of-requires-clause-short
body_of-requires-clause-short c =
    let short : length c.args.text.now < 2 ^ 63 = search rules in
    omega (arith, short, few_lines c.args.text.now, c.in_ok-start.ensures.counted)

pub returns-in_err-reading-clause-err : goal.returns-in_err-reading-clause-err
returns-in_err-reading-clause-err c =
    handed_on _ _ _ c.from_residual-in_err-reading.ensures.1 (words_cause c.args.text.now _ _ _ _ _ c.in_ok-start.ensures.ok c.in_ok-start.ensures.counted c.in_err-reading.ensures.err)

pub returns-then-not-is_empty-clause-err : goal.returns-then-not-is_empty-clause-err
returns-then-not-is_empty-clause-err c =
    let header = c.in_ok-start.ensures.ok in
    let read = c.in_ok-reading.ensures.ok in
    let found = c.in_ok-reading.field-0.reading in
    let some : found.pending.items ≢ [] = search rules in
    let unended = open_clause read.taken.tokens found.clauses found.pending.items read.taken.clauses_are some in
    (no_end c.args.text.now _ _ _ read.taken.tokens header (all_read _ _ _ _ _ _ read) read.taken.exist unended, end_stops _ _ _ _ _ _ _ _ header c.in_ok-start.ensures.counted read)

pub returns-then-len-from-clause-err : goal.returns-then-len-from-clause-err
returns-then-len-from-clause-err c =
    let header = c.in_ok-start.ensures.ok in
    let read = c.in_ok-reading.ensures.ok in
    let found = c.in_ok-reading.field-0.reading in
    let none : found.pending.items ≡ [] = empty_list found.pending.items (search rules) in
    let are = subst (λ (pending : List Lit). AreClauses read.taken.tokens found.clauses pending) none read.taken.clauses_are in
    (other_count c.args.text.now _ _ _ read.taken.tokens found.clauses header (all_read _ _ _ _ _ _ read) read.taken.exist are (λ same. c.if-len-from.true (omega arith)), end_stops _ _ _ _ _ _ _ _ header c.in_ok-start.ensures.counted read)

pub returns-in-Some-clause-ok : goal.returns-in-Some-clause-ok
returns-in-Some-clause-ok c =
    let read = c.in_ok-reading.ensures.ok in
    let found = c.in_ok-reading.field-0.reading in
    let none : found.pending.items ≡ [] = empty_list found.pending.items (search rules) in
    let are = subst (λ (pending : List Lit). AreClauses read.taken.tokens found.clauses pending) none read.taken.clauses_are in
    formula_read c.args.text.now _ _ _ read.taken.tokens found.clauses c.in-Some.formula c.in_ok-start.ensures.ok (all_read _ _ _ _ _ _ read) are (omega arith) c.in-Some.ensures.same.0 c.in-Some.ensures.same.1

pub returns-clause-err : goal.returns-clause-err
returns-clause-err c =
    let read = c.in_ok-reading.ensures.ok in
    let found = c.in_ok-reading.field-0.reading in
    let none : found.pending.items ≡ [] = empty_list found.pending.items (search rules) in
    let are = subst (λ (pending : List Lit). AreClauses read.taken.tokens found.clauses pending) none read.taken.clauses_are in
    let within = variables_within _ read.taken.tokens found.clauses read.taken.exist are in
    absurd (none_is_some c.of.result (c.of.ensures.exact.1 within) c.in-None.is)
