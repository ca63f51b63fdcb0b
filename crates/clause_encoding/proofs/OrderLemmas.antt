-- The clauses of the order by number are those of the order clauses as written, and the others come after them.
use Rattle.std.proofs.Common.{◌≡◌, ◌⊎◌, inl, inr, ℕ, ◌+◌, ◌-◌, ◌*◌, ◌/◌, ◌<◌, ◌≤◌, true, false, List, [], ◌∷◌, ◌++◌, Contains, refl, ap, sym, ◌∙◌, subst, arith, append_assoc}
use Rattle.std.specs.Prelude.{nat_lt}
use Rattle.std.specs.List.{All, flat_map, range_with_len}
use Rattle.std.proofs.lemmas.Bool.{cond-true, lt-ltb}
use Rattle.std.proofs.lemmas.List.Elements.{All-head, All-tail}
use Rattle.bspl_types.specs.declared.expanded.Expanded.{Expanded}
use Rattle.bspl_types.specs.declared.property.Property.{Property}
use Rattle.clause_core.specs.declared.literal.Lit.{Lit}
use Rattle.clause_core.specs.Clause.{HasExactly, IsClauseOf}
use Rattle.clause_core.specs.Literal.{negated, positive}
use Rattle.list_base.proofs.Members.{cons_cases, here_same, only, there}
use Rattle.order_axioms.specs.declared.order.Order.{Order}
use Rattle.order_axioms.specs.Order.{AreRising, CycleClausesAscend, cycle_clause, cycles_of_one, cycles_of_three, cycles_of_two, order_list, pair_variable}
use Rattle.clause_encoding.specs.declared.variables.Variables.{Variables}
use Rattle.clause_encoding.specs.Families.{delivery_clauses, freshness_clauses, occurrence_clauses, order_clauses, order_of_three, premise_clauses}
use Rattle.clause_encoding.specs.Formula.{clauses_of, own_clauses, variables_of}
use Rattle.clause_encoding.specs.Ordered.{IsOrderOf}
use Rattle.clause_encoding.specs.Variables.{IsKind, kinds_following, order_variable, stands_before}
use Rattle.clause_core.specs.Written.{AppendsClauses, Written, AreClausesOf}
use Rattle.clause_encoding.specs.inner.Order.{clauses_after_order, families_after_order, order_of_one, order_of_two}
use Rattle.clause_encoding.proofs.AppendsLemmas.{joined}
use Rattle.clause_encoding.proofs.ExistenceLemmas.{IsAfter, kind_after, later_kinds}

-- one of three literals
abbrev IsOneOf : Lit → Lit → Lit → Lit → Type 0
IsOneOf a b c l = (a ≡ l) ⊎ ((b ≡ l) ⊎ (c ≡ l))

one_of : (a b c l : Lit) → Contains (a ∷ b ∷ c ∷ []) l → IsOneOf a b c l
one_of a b c l here = elim (cons_cases a (b ∷ c ∷ []) l here) [
  | inl first ↦ inl first
  | inr rest ↦ inr (elim (cons_cases b (c ∷ []) l rest) [ inl second ↦ inl second | inr last ↦ inr (only c l last) ])
]

among : (a b c l : Lit) → IsOneOf a b c l → Contains (a ∷ b ∷ c ∷ []) l
among a b c l one = elim one [
  | inl first ↦ here_same a (b ∷ c ∷ []) l first
  | inr rest ↦ there a (b ∷ c ∷ []) l (elim rest [
    | inl second ↦ here_same b (c ∷ []) l second
    | inr third ↦ there b (c ∷ []) l (here_same c [] l third)
  ])
]

-- three literals, the last one first among the other two
swap : (a b c l : Lit) → IsOneOf a b c l → IsOneOf a c b l
swap a b c l one = elim one [
  | inl first ↦ inl first
  | inr rest ↦ elim rest [ inl second ↦ inr (inr second) | inr third ↦ inr (inl third) ]
]

swapped : (a b c : Lit) → HasExactly (a ∷ b ∷ c ∷ []) (a ∷ c ∷ b ∷ [])
swapped a b c l = (
  λ here. among a c b l (swap a b c l (one_of a b c l here)),
  λ here. among a b c l (swap a c b l (one_of a c b l here)),
)

-- the literal of two kinds
before_is : (o : Order) (vars : Variables) (i j : ℕ) → IsOrderOf vars o → i < j → stands_before vars i j ≡ positive (pair_variable o i j)
before_is o vars i j is less =
    let same : order_variable vars i j ≡ pair_variable o i j =
    λ n. sym is.base n + (i - 1) * sym is.kinds n - i * (i - 1) / 2 + (j - i) in
    cond-true (nat_lt i j) (positive (order_variable vars i j)) _ (lt-ltb i j less) ∙ ap positive same

-- the clauses of three kinds
three_are : CycleClausesAscend → (o : Order) (vars : Variables) (i j k : ℕ) → IsOrderOf vars o → IsKind vars i → IsAfter vars i j → IsAfter vars j k → AreClausesOf (order_of_three vars i j k) (cycles_of_three o i j k)
three_are ascend o vars i j k is first second third =
    let from = first.from_one in
    let ij_less = second.0 in
    let jk_less = third.0 in
    let rising : AreRising o i j k = record { from_one = from; first = ij_less; second = jk_less; up_to = subst (λ (m : ℕ). k ≤ m) (sym is.kinds) third.1 } in
    let ij = before_is o vars i j is ij_less in
    let jk = before_is o vars j k is jk_less in
    let ik = before_is o vars i k is (omega (arith, ij_less, jk_less)) in
    let p = positive (pair_variable o i j) in
    let q = positive (pair_variable o j k) in
    let r = positive (pair_variable o i k) in
    let forward : IsClauseOf (negated (stands_before vars i j) ∷ negated (stands_before vars j k) ∷ stands_before vars i k ∷ []) (cycle_clause o false i j k) = record {
      ascending = ascend o false i j k rising;
      exactly = subst (HasExactly (cycle_clause o false i j k)) (λ n. negated (sym ij n) ∷ negated (sym jk n) ∷ sym ik n ∷ []) (swapped (negated p) r (negated q));
    } in
    let backward : IsClauseOf (stands_before vars i j ∷ stands_before vars j k ∷ negated (stands_before vars i k) ∷ []) (cycle_clause o true i j k) = record {
      ascending = ascend o true i j k rising;
      exactly = subst (HasExactly (cycle_clause o true i j k)) (λ n. sym ij n ∷ sym jk n ∷ negated (sym ik n) ∷ []) (swapped p (negated r) q);
    } in
    (forward, (backward, tt))

-- what each number writes, and the clauses of it
joined_all : (P : ℕ → Type 0) (f : ℕ → List Written) (g : ℕ → List (List Lit)) (xs : List ℕ) → ((x : ℕ) → P x → AreClausesOf (f x) (g x)) → All P xs → AreClausesOf (flat_map f xs) (flat_map g xs)
joined_all P f g [] each all = tt
joined_all P f g (x ∷ xs) each all =
    joined (f x) (flat_map f xs) (g x) (flat_map g xs) (each x (All-head P x xs all)) (joined_all P f g xs each (All-tail P x xs all))

-- the same over the later kinds
joined_kinds : (o : Order) (vars : Variables) (i : ℕ) (f : ℕ → List Written) (g : ℕ → List (List Lit)) → IsOrderOf vars o → ((j : ℕ) → IsAfter vars i j → AreClausesOf (f j) (g j)) → AreClausesOf (flat_map f (kinds_following vars i)) (flat_map g (range_with_len (i + 1) (o.kinds - i)))
joined_kinds o vars i f g is each =
    subst (λ (kinds : ℕ). AreClausesOf (flat_map f (kinds_following vars i)) (flat_map g (range_with_len (i + 1) (kinds - i)))) (sym is.kinds)
    (joined_all (IsAfter vars i) f g (kinds_following vars i) each (later_kinds vars i))

-- so the clauses of the order are the order clauses
pub order_are : CycleClausesAscend → (o : Order) (vars : Variables) → IsOrderOf vars o → AreClausesOf (order_clauses vars) (order_list o)
order_are ascend o vars is =
    joined_kinds o vars 0 (order_of_one vars) (cycles_of_one o) is
    (λ i first. joined_kinds o vars i (order_of_two vars i) (cycles_of_two o i) is
    (λ j second. joined_kinds o vars j (order_of_three vars i j) (cycles_of_three o i j) is
    (λ k third. three_are ascend o vars i j k is (kind_after vars 0 i first) second third)))

-- the clauses of a formula are the order clauses and those after them
pub all_clauses : (property : Property) (x : Expanded) → clauses_of property x ≡ order_clauses (variables_of property x) ++ clauses_after_order property x
all_clauses property x =
    let vars = variables_of property x in
    let order = order_clauses vars in
    let occurrence = occurrence_clauses vars in
    let delivery = delivery_clauses x vars in
    let premises = premise_clauses x vars in
    let freshness = freshness_clauses x vars in
    let own = own_clauses property x in
    let two = append_assoc order occurrence delivery in
    let three = ap (λ written. written ++ premises) two ∙ append_assoc order (occurrence ++ delivery) premises in
    let four = ap (λ written. written ++ freshness) three ∙ append_assoc order (occurrence ++ delivery ++ premises) freshness in
    ap (λ written. written ++ own) four ∙ append_assoc order (families_after_order x vars) own

-- the clauses of the order are appended
pub appends_order : CycleClausesAscend → (o : Order) (vars : Variables) (old new : List (List Lit)) → IsOrderOf vars o → new ≡ old ++ order_list o → AppendsClauses old new (order_clauses vars)
appends_order ascend o vars old new is follows = record { added = order_list o; follows = follows; are = order_are ascend o vars is }

-- the clauses of the order and then the others are those of the formula
pub ordered_clauses : CycleClausesAscend → (property : Property) (x : Expanded) (o : Order) (rest : List (List Lit)) → IsOrderOf (variables_of property x) o → AppendsClauses [] rest (clauses_after_order property x) → AppendsClauses [] (order_list o ++ rest) (clauses_of property x)
ordered_clauses ascend property x o rest is appends =
    let are : AreClausesOf (clauses_after_order property x) rest = subst (AreClausesOf (clauses_after_order property x)) (sym appends.follows) appends.are in
    record {
      added = order_list o ++ rest;
      follows = refl;
      are = subst (λ (written : List Written). AreClausesOf written (order_list o ++ rest)) (sym (all_clauses property x))
          (joined (order_clauses (variables_of property x)) (clauses_after_order property x) (order_list o) rest (order_are ascend o (variables_of property x) is) are);
    }

-- the same by other names of the protocol and the variables
pub whole_clauses : CycleClausesAscend → (property : Property) (x y : Expanded) (vars : Variables) (o : Order) (rest : List (List Lit)) → y ≡ x → vars ≡ variables_of property x → IsOrderOf vars o → AppendsClauses [] rest (clauses_after_order property y) → AppendsClauses [] (order_list o ++ rest) (clauses_of property x)
whole_clauses ascend property x y vars o rest same is is_order appends =
    ordered_clauses ascend property x o rest (subst (λ (v : Variables). IsOrderOf v o) is is_order) (subst (λ (z : Expanded). AppendsClauses [] rest (clauses_after_order property z)) same appends)

-- what holds of all items holds of the later ones
pub all_after : {X : Type 0} (P : X → Type 0) (xs ys : List X) → All P (xs ++ ys) → All P ys
all_after P [] ys all = all
all_after P (x ∷ xs) ys all = all_after P xs ys (All-tail P x (xs ++ ys) all)
