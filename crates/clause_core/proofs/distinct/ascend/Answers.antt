-- The next literal is greater, or the pass ends.
use Rattle.std.proofs.Common.{false, ◌<◌, ◌-◌, get_or, arith}
use Rattle.std.proofs.lemmas.List.{get_or_default}
use Rattle.std.proofs.lemmas.List.Sorted.{all_adjacent_more}
use Rattle.clause_core.specs.declared.literal.Lit.{Lit}
use Rattle.clause_core.specs.Literal.{rank}
use Rattle.clause_core.proofs.DistinctLemmas.{ascending_steps}
use Rattle.clause_core.proofs.distinct.ascend.Goals as goal

-- the literal that a read past the end would give
abbrev no_literal : Lit
no_literal = record { var = 0; positive = false }

pub loop-i-preserved : goal.loop-i-preserved
loop-i-preserved c =
    let lits = c.args.lits.now in
    let i = c.loop-i.i in
    let step : rank (get_or lits (i - 1) no_literal) < rank (get_or lits i no_literal) = omega (arith, c.if-rank.false, c.rank.ensures, c.rank-in-loop-i.ensures) in
    all_adjacent_more lits (λ (x y : Lit). rank x < rank y) i c.loop-i.auto.i c.loop-i.invariant
    (λ d. rw (get_or_default lits (i - 1) d no_literal (omega (arith, c.loop-i-test.true)), get_or_default lits i d no_literal c.loop-i-test.true) step)

pub returns : goal.returns
returns c = λ yes. ascending_steps c.args.lits.now c.loop-i.i c.loop-i-test.false c.loop-i.invariant
