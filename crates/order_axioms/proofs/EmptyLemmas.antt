-- No clause of an order is empty.
use Rattle.std.proofs.Common.{◌≢◌, inl, inr, ◌↔◌, ℕ, true, false, refl, List, [], ◌∷◌, ◌++◌, All, Contains}
use Rattle.std.specs.List.{flat_map}
use Rattle.std.proofs.lemmas.List.Elements.{All-append, All-cons, All-contains, All-nil, Contains-append_cases, Contains-append_right}
use Rattle.clause_core.specs.declared.literal.Lit.{Lit}
use Rattle.order_axioms.specs.declared.order.Order.{Order}
use Rattle.order_axioms.specs.Order.{cycle_clause, cycles_of_one, cycles_of_three, cycles_of_two, kinds_after, order_list}

-- the clause has a literal
abbrev IsFilled : List Lit → Type 0
IsFilled clause = clause ≢ []

-- what holds of all that each number adds holds of all
all_added : (f : ℕ → List (List Lit)) (xs : List ℕ) → ((x : ℕ) → All IsFilled (f x)) → All IsFilled (flat_map f xs)
all_added f [] each = All-nil IsFilled
all_added f (x ∷ xs) each = All-append IsFilled (f x) (flat_map f xs) (each x) (all_added f xs each)

three_filled : (order : Order) (i j k : ℕ) → All IsFilled (cycles_of_three order i j k)
three_filled order i j k =
    All-cons IsFilled (cycle_clause order false i j k) (cycle_clause order true i j k ∷ []) (λ empty. absurd cc)
    (All-cons IsFilled (cycle_clause order true i j k) [] (λ empty. absurd cc) (All-nil IsFilled))

order_filled : (order : Order) → All IsFilled (order_list order)
order_filled order =
    all_added (cycles_of_one order) (kinds_after order 0)
    (λ i. all_added (cycles_of_two order i) (kinds_after order i)
    (λ j. all_added (cycles_of_three order i j) (kinds_after order j) (three_filled order i j)))

-- so an empty clause is one of those after them
pub empty_after : (order : Order) (rest : List (List Lit)) → Contains (order_list order ++ rest) [] ↔ Contains rest []
empty_after order rest = (
  λ among. elim (Contains-append_cases (order_list order) rest [] among) [
    | inl here ↦ absurd (All-contains IsFilled (order_list order) [] (order_filled order) here refl)
    | inr later ↦ later
  ],
  λ later. Contains-append_right (order_list order) rest [] later,
)
