-- Sorting moves the literals, and the pass over them drops doubles only.
use Rattle.std.proofs.Common.{◌≡◌, List, subst, sym}
use Rattle.std.specs.List.Sorted.{IsNonDecreasingBy}
use Rattle.clause_core.specs.Clause.{HasExactly}
use Rattle.clause_core.specs.declared.literal.Lit.{Lit}
use Rattle.clause_core.specs.Literal.{rank}
use Rattle.clause_core.proofs.ClauseLemmas.{moved_exactly}
use Rattle.clause_core.proofs.clause.Clause.of.Goals as goal

pub returns-then-ascend : goal.returns-then-ascend
returns-then-ascend c =
    let sorted = c.in_ok-sorted.sorted.items in
    moved_exactly c.args.lits.now sorted sorted c.in_ok-sorted.ensures.moved (λ l. (λ among. among, λ among. among))

pub distinct-requires : goal.distinct-requires
distinct-requires c =
    let same : c.as_slice-2.result.now ≡ c.in_ok-sorted.sorted.items = c.as_slice-2.ensures in
    subst (λ (lits : List Lit). IsNonDecreasingBy rank lits) (sym same) c.in_ok-sorted.ensures.rising

pub returns : goal.returns
returns c =
    let sorted = c.in_ok-sorted.sorted.items in
    let kept = c.in_ok-distinct.field-0.items in
    let same : c.as_slice-2.result.now ≡ sorted = c.as_slice-2.ensures in
    let members = subst (λ (lits : List Lit). HasExactly kept lits) same c.in_ok-distinct.ensures.members in
    moved_exactly c.args.lits.now sorted kept c.in_ok-sorted.ensures.moved members
