-- Each line is read, or one has a word of no clause.
use Rattle.std.proofs.Common.{length, All, List, ℕ, rules, sym, ap, subst, ◌∙◌, arith}
use Rattle.std.specs.Option.{option_copied}
use Rattle.dimacs.specs.RefusedLine.{IsClauseWord}
use Rattle.dimacs.specs.inner.Reading.{AreRead, TakesWords, lines_in}
use Rattle.dimacs.proofs.LineLemmas.{line_read, line_unread, some_line}
use Rattle.dimacs.proofs.lines.body_of.Goals as goal

pub overflow_add-line : goal.overflow_add-line
overflow_add-line c =
    let left = ap lines_in (ap option_copied c.in-Some.is) in
    omega (arith, ap length left, some_line c.in-Some.bytes.now, c.requires.short, c.loop-left.invariant.counted)

pub loop-left-preserved : goal.loop-left-preserved
loop-left-preserved c =
    let old = c.loop-left.reading in
    let new = c.take_words.new.reading in
    let parts = ap lines_in (ap option_copied c.in-Some.is) ∙ c.split_once.ensures.parts in
    let read = subst (λ (ls : List (List ℕ)). AreRead c.args.vars old.clauses old.pending.items (lines_in (option_copied c.args.lines)) ls c.args.header_line c.loop-left.line) parts c.loop-left.invariant in
    let takes = subst (λ (ws : List (List ℕ)). TakesWords c.args.vars old.clauses old.pending.items ws new.clauses new.pending.items) c.uncommented.ensures c.in-Ok.ensures.ok in
    line_read c.args.vars old.clauses new.clauses old.pending.items new.pending.items _ _ _ c.args.header_line c.loop-left.line read takes

pub returns-in-Err : goal.returns-in-Err
returns-in-Err c =
    let old = c.loop-left.reading in
    let parts = ap lines_in (ap option_copied c.in-Some.is) ∙ c.split_once.ensures.parts in
    let read = subst (λ (ls : List (List ℕ)). AreRead c.args.vars old.clauses old.pending.items (lines_in (option_copied c.args.lines)) ls c.args.header_line c.loop-left.line) parts c.loop-left.invariant in
    record {
      ok = tt;
      err = line_unread c.args.vars old.clauses old.pending.items _ _ _ c.args.header_line c.loop-left.line read
          (λ all. c.in-Err.ensures.err (search rules) (subst (All (IsClauseWord c.args.vars)) (sym c.uncommented.ensures) all));
    }
