-- The kinds of the clause are found by its index.
use Rattle.std.proofs.Common.{◌≡◌, ◌+◌, ◌-◌, ◌/◌, ◌%◌, nat_eq, refl, arith}
use Rattle.order_axioms.proofs.NumberLemmas.{AreFound, found_number, kinds_found, rest_below}
use Rattle.order_axioms.proofs.StartLemmas.{order_length, pair_start_small}
use Rattle.order_axioms.proofs.VariableLemmas.{cycle_ascends}
use Rattle.order_axioms.proofs.order_numbers.OrderNumbers.clause.Goals as goal

pub first_kind-i-requires : goal.first_kind-i-requires
first_kind-i-requires c = omega (arith, c.requires.from_one, c.requires.up_to, order_length c.args.self.now.order)

pub overflow_add-rest : goal.overflow_add-rest
overflow_add-rest c =
    let kinds = c.args.self.now.order.kinds in
    omega (arith, c.cycle_start.ensures, c.pair_start.ensures, rest_below kinds (c.args.number - 1) c.first_kind-i.result c.first_kind-i.ensures, pair_start_small kinds kinds c.args.self.now.order.few_kinds, c.args.self.now.order.few_kinds)

pub cycle_clause-requires : goal.cycle_clause-requires
cycle_clause-requires c =
    (kinds_found c.args.self.now.order (c.args.number - 1) c.first_kind-i.result _ c.second_kind-j.result _ _ c.first_kind-i.ensures
    (omega (arith, c.cycle_start.ensures, c.pair_start.ensures)) c.second_kind-j.ensures (omega (arith, c.pair_start-2.ensures)) refl).rising

pub returns-clause-number : goal.returns-clause-number
returns-clause-number c =
    let order = c.args.self.now.order in
    let index = c.args.number - 1 in
    let i = c.first_kind-i.result in
    let j = c.second_kind-j.result in
    let rest = index - c.cycle_start.result + c.pair_start.result in
    let past = rest - c.pair_start-2.result in
    let k = j + 1 + past / 2 in
    let found : AreFound order index i j k past =
    kinds_found order index i rest j past k c.first_kind-i.ensures
    (omega (arith, c.cycle_start.ensures, c.pair_start.ensures)) c.second_kind-j.ensures (omega (arith, c.pair_start-2.ensures)) refl in
    let number : c.args.number ≡ index + 1 = omega (arith, c.requires.from_one) in
    rw c.cycle_clause.ensures (found_number order c.args.number index i j k past (nat_eq (past % 2) 1) number refl found)

pub returns-clause-ascending : goal.returns-clause-ascending
returns-clause-ascending c =
    let order = c.args.self.now.order in
    let found = kinds_found order (c.args.number - 1) c.first_kind-i.result _ c.second_kind-j.result _ _ c.first_kind-i.ensures
    (omega (arith, c.cycle_start.ensures, c.pair_start.ensures)) c.second_kind-j.ensures (omega (arith, c.pair_start-2.ensures)) refl in
    rw c.cycle_clause.ensures (cycle_ascends order _ _ _ _ found.rising)
