-- Sorting by the rank makes the ranks rise.
use Rattle.std.proofs.Common.{rules, List, sym, subst}
use Rattle.std.specs.List.Sorted.{IsNonDecreasingBy}
use Rattle.std.proofs.lemmas.List.Sorted.{IsNonDecreasingBy-from_sort_by_key}
use Rattle.clause_core.specs.declared.literal.Lit.{Lit}
use Rattle.clause_core.specs.Literal.{rank}
use Rattle.clause_core.proofs.DistinctLemmas.{all_replaced}
use Rattle.clause_core.proofs.distinct.sorted.Goals as goal

pub returns-clause-rising : goal.returns-clause-rising
returns-clause-rising c =
    let moved = c.sort_unstable_by_key.new.self in
    let rising = IsNonDecreasingBy-from_sort_by_key rank moved c.sort_unstable_by_key.ensures.sorted (λ a r q k. search rules) in
    let whole = all_replaced c.in_ok-sorted.sorted.items moved (search rules) in
    subst (λ (lits : List Lit). IsNonDecreasingBy rank lits) (sym whole) rising
