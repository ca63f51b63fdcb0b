-- The clauses of an order cover each cycle of three kinds, and each cycle has three variables.
use Rattle.std.proofs.Common.{◌≡◌, ◌≢◌, inl, inr, ℕ, zero, suc, ◌+◌, ◌<◌, ◌≤◌, false, true, AllPairs, ap, refl, sym, arith}
use Rattle.std.proofs.lemmas.Bool.{cases_lt}
use Rattle.clause_core.specs.declared.literal.Lit.{Lit}
use Rattle.order_axioms.specs.declared.order.Order.{Order}
use Rattle.order_axioms.specs.Order.{AreKinds, AreRising, ForbidsCycle, comes_before, forbidden_cycle, pair_variable}
use Rattle.order_axioms.proofs.CycleLemmas.{before_greater, before_lower, forbids_backward, forbids_forward, forbids_turned, kinds_turned}
use Rattle.order_axioms.proofs.NumberLemmas.{index_of, rising_number}
use Rattle.order_axioms.proofs.VariableLemmas.{variables_rise}

-- a cycle that is named from its least kind on
from_least : (order : Order) (x y z : ℕ) → AreKinds order x y z → x < y → x < z → (number : ℕ) × ForbidsCycle order number x y z
from_least order x y z kinds to_y to_z = elim (cases_lt y z) [
  | inl forward ↦
      let rising : AreRising order x y z = record { from_one = kinds.from_one.0; first = to_y; second = forward; up_to = kinds.up_to.2 } in
      (index_of order.kinds false x y z + 1, forbids_forward order _ x y z to_y forward (rising_number order false x y z _ rising refl))
  | inr back ↦
      let second : z < y = omega (arith, back, kinds.distinct.1) in
      let rising : AreRising order x z y = record { from_one = kinds.from_one.0; first = to_z; second = second; up_to = kinds.up_to.1 } in
      (index_of order.kinds true x z y + 1, forbids_backward order _ x y z to_z second (rising_number order true x z y _ rising refl))
]

-- from its second kind on, or from its third
from_second : (order : Order) (x y z : ℕ) → AreKinds order x y z → y < z → y < x → (number : ℕ) × ForbidsCycle order number x y z
from_second order x y z kinds to_z to_x =
    let found = from_least order y z x (kinds_turned order x y z kinds) to_z to_x in
    (found.0, forbids_turned order found.0 z x y (forbids_turned order found.0 y z x found.1))

from_third : (order : Order) (x y z : ℕ) → AreKinds order x y z → z < x → z < y → (number : ℕ) × ForbidsCycle order number x y z
from_third order x y z kinds to_x to_y =
    let turned = kinds_turned order y z x (kinds_turned order x y z kinds) in
    let found = from_least order z x y turned to_x to_y in
    (found.0, forbids_turned order found.0 z x y found.1)

-- each cycle of three kinds is forbidden
pub cycle_forbidden : (order : Order) (x y z : ℕ) → AreKinds order x y z → (number : ℕ) × ForbidsCycle order number x y z
cycle_forbidden order x y z kinds = elim (cases_lt x y) [
  | inl first ↦ elim (cases_lt x z) [
    | inl last ↦ from_least order x y z kinds first last
    | inr back ↦
        let third : z < x = omega (arith, back, kinds.distinct.2) in
        from_third order x y z kinds third (omega (arith, third, first))
  ]
  | inr back ↦
      let second : y < x = omega (arith, back, kinds.distinct.0) in
      elim (cases_lt y z) [
        | inl last ↦ from_second order x y z kinds last second
        | inr below ↦
            let third : z < y = omega (arith, below, kinds.distinct.1) in
            from_third order x y z kinds (omega (arith, third, second)) third
      ]
]

-- the variable of two kinds, whichever is the lower
variable_up : (order : Order) (x y : ℕ) → x < y → (comes_before order x y).var ≡ pair_variable order x y
variable_up order x y less = ap (λ (l : Lit). l.var) (before_greater order x y less)

variable_down : (order : Order) (x y : ℕ) → y < x → (comes_before order x y).var ≡ pair_variable order y x
variable_down order x y less = ap (λ (l : Lit). l.var) (before_lower order x y less)

-- three kinds that rise
rising_of : (order : Order) (i j k : ℕ) → 0 < i → i < j → j < k → k ≤ order.kinds → AreRising order i j k
rising_of order i j k from_one first second up_to =
    record { from_one = from_one; first = first; second = second; up_to = up_to }

-- two kinds after one another in a cycle have another variable than the next two
pub variables_differ : (order : Order) (x y z : ℕ) → AreKinds order x y z → (comes_before order x y).var ≢ (comes_before order y z).var
variables_differ order x y z kinds same = elim (cases_lt x y) [
  | inl up ↦ elim (cases_lt y z) [
    | inl next ↦
        let rise = variables_rise order x y z (rising_of order x y z kinds.from_one.0 up next kinds.up_to.2) in
        omega (arith, same, variable_up order x y up, variable_up order y z next, rise)
    | inr over ↦
        let down : z < y = omega (arith, over, kinds.distinct.1) in
        elim (cases_lt x z) [
          | inl between ↦
              let rise = variables_rise order x z y (rising_of order x z y kinds.from_one.0 between down kinds.up_to.1) in
              omega (arith, same, variable_up order x y up, variable_down order y z down, rise)
          | inr below ↦
              let least : z < x = omega (arith, below, kinds.distinct.2) in
              let rise = variables_rise order z x y (rising_of order z x y kinds.from_one.2 least up kinds.up_to.1) in
              omega (arith, same, variable_up order x y up, variable_down order y z down, rise)
        ]
  ]
  | inr over ↦
      let down : y < x = omega (arith, over, kinds.distinct.0) in
      elim (cases_lt y z) [
        | inl next ↦ elim (cases_lt x z) [
          | inl last ↦
              let rise = variables_rise order y x z (rising_of order y x z kinds.from_one.1 down last kinds.up_to.2) in
              omega (arith, same, variable_down order x y down, variable_up order y z next, rise)
          | inr below ↦
              let greatest : z < x = omega (arith, below, kinds.distinct.2) in
              let rise = variables_rise order y z x (rising_of order y z x kinds.from_one.1 next greatest kinds.up_to.0) in
              omega (arith, same, variable_down order x y down, variable_up order y z next, rise)
        ]
        | inr below ↦
            let last : z < y = omega (arith, below, kinds.distinct.1) in
            let rise = variables_rise order z y x (rising_of order z y x kinds.from_one.2 last down kinds.up_to.0) in
            omega (arith, same, variable_down order x y down, variable_down order y z last, rise)
      ]
]

-- the literals that forbid a cycle are of three variables
pub three_variables : (order : Order) (x y z : ℕ) → AreKinds order x y z → AllPairs (λ l m. l.var ≢ m.var) (forbidden_cycle order x y z)
three_variables order x y z kinds i zero d before within = absurd (omega (arith, before))
three_variables order x y z kinds zero (suc zero) d before within = variables_differ order x y z kinds
three_variables order x y z kinds zero (suc (suc zero)) d before within = λ same.
    variables_differ order z x y (kinds_turned order y z x (kinds_turned order x y z kinds)) (sym same)
three_variables order x y z kinds (suc zero) (suc (suc zero)) d before within =
    variables_differ order y z x (kinds_turned order x y z kinds)
three_variables order x y z kinds (suc i) (suc zero) d before within = absurd (omega (arith, before))
three_variables order x y z kinds (suc (suc i)) (suc (suc zero)) d before within = absurd (omega (arith, before))
three_variables order x y z kinds i (suc (suc (suc j))) d before within = absurd (omega (arith, within))
