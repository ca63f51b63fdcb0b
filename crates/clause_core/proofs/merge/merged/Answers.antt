-- Each arm of the merge is a step of the lemmas.
use Rattle.std.proofs.Common.{false, arith}
use Rattle.clause_core.specs.declared.literal.Lit.{Lit}
use Rattle.clause_core.proofs.MergeLemmas.{merging_ends, keeps_first, keeps_second, keeps_both, head_least}
use Rattle.clause_core.proofs.merge.merged.Goals as goal

-- the literal that a read past the end would give
abbrev no_literal : Lit
no_literal = record { var = 0; positive = false }

pub returns-in-empty-second : goal.returns-in-empty-second
returns-in-empty-second c =
    merging_ends _ _ _ _ _ _ _ c.in-empty.len_below c.in-empty-second.len_below c.merge.invariant

pub merge-preserved-then-first-lt1 : goal.merge-preserved-then-first-lt1
merge-preserved-then-first-lt1 c =
    let kept = c.in_ok-keep-in-len1-up-second in
    keeps_second _ _ _ _ _ _ _ _ _ (omega arith) (λ m among. absurd (omega (arith, among.1))) kept.ensures.left kept.ensures.kept c.merge.invariant

pub merge-preserved-then-second-lt1-2 : goal.merge-preserved-then-second-lt1-2
merge-preserved-then-second-lt1-2 c =
    let kept = c.in_ok-keep-in-empty-second-2 in
    keeps_first _ _ _ _ _ _ _ _ _ (omega arith) (λ m among. absurd (omega (arith, among.1))) kept.ensures.left kept.ensures.kept c.merge.invariant

pub merge-preserved-then-rank : goal.merge-preserved-then-rank
merge-preserved-then-rank c =
    let kept = c.in_ok-keep-in-len1-up-second-2 in
    keeps_first _ _ _ _ _ _ _ _ _ (omega arith) (λ m among. omega (arith, head_least c.merge.second.now no_literal c.merge.invariant.second_ascends m among)) kept.ensures.left kept.ensures.kept c.merge.invariant

pub merge-preserved-then-rank-2 : goal.merge-preserved-then-rank-2
merge-preserved-then-rank-2 c =
    let kept = c.in_ok-keep-in-len1-up-second-2-2 in
    keeps_second _ _ _ _ _ _ _ _ _ (omega arith) (λ m among. omega (arith, head_least c.merge.first.now no_literal c.merge.invariant.first_ascends m among)) kept.ensures.left kept.ensures.kept c.merge.invariant

pub merge-preserved : goal.merge-preserved
merge-preserved c =
    keeps_both _ _ _ _ _ _ _ _ _ c.requires.differ (omega arith) (omega arith) (omega arith) c.in_ok-push-in-len1-up-second-2.ensures.ok c.merge.invariant
