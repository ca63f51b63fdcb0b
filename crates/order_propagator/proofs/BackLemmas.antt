-- Decisions and backtracks.
use Rattle.std.proofs.Common.{◌≡◌, ℕ, ◌+◌, ◌<◌, ◌≤◌, min, Bool, false, List, [], ◌∷◌, ◌++◌, inl, inr, length, take, sym, ap, ◌∙◌, subst, arith, append-nil, All, length-append}
use Rattle.std.proofs.lemmas.Bool.{cases_lt}
use Rattle.std.proofs.lemmas.List.{map-append}
use Rattle.std.proofs.lemmas.List.Elements.{All-cons, All-nil}
use Rattle.clause_core.specs.declared.literal.Lit.{Lit}
use Rattle.order_axioms.specs.declared.order.Order.{Order}
use Rattle.sat_trail.specs.declared.entry.Entry.{Entry}
use Rattle.sat_trail.specs.Entry.{values_of, up_to, decided}
use Rattle.sat_trail.specs.State.{State}
use Rattle.sat_trail.specs.Trail.{IsTrail}
use Rattle.order_propagator.specs.inner.Closed.{IsClosed, IsTransitive, IsTransitiveBelow}
use Rattle.order_propagator.specs.inner.Closing.{IsClosedUpTo}
use Rattle.order_propagator.specs.inner.Making.{CanMake}
use Rattle.order_propagator.specs.inner.Whole.{renamed, whole_clauses, whole_state}
use Rattle.order_propagator.proofs.EntryLemmas.{up_to-both, up_to-low, up_to-more, up_to-renamed, up_to-twice}
use Rattle.order_propagator.proofs.GrowthLemmas.{state}
use Rattle.order_propagator.proofs.KeepLemmas.{closed-more, closed-transitive}

-- the state after a decision
abbrev pub decides : State → Lit → State
decides t l = record t { entries = t.entries ++ decided l (t.level + 1) ∷ []; level = t.level + 1; ready = false }

-- the state after a backtrack
abbrev pub backs : State → ℕ → State
backs t level = record t { entries = up_to level t.entries; level = level; ready = false }

-- a decision is above the levels before it
decided-above : (level : ℕ) (l : Lit) (next : ℕ) → level < next → All (λ e. level < e.level) (decided l next ∷ [])
decided-above level l next above = All-cons (λ (e : Entry). level < e.level) (decided l next) [] above (All-nil (λ (e : Entry). level < e.level))

-- where the values are transitive, they are so below a decision
below-decided : (order : Order) (t : State) (l : Lit) → IsTrail t → IsTransitiveBelow order t → IsTransitive order (values_of t.entries) → IsTransitiveBelow order (decides t l)
below-decided order t l trail below here level lower = elim (cases_lt level t.level) [
  | inl under ↦ subst (λ es. IsTransitive order (values_of es)) (sym (up_to-more level t.entries (decided l (t.level + 1) ∷ []) (decided-above level l (t.level + 1) lower))) (below level under)
  | inr over ↦
      let same : level ≡ t.level = omega (arith, lower, over) in
      subst (λ n. IsTransitive order (values_of (up_to n (t.entries ++ decided l (t.level + 1) ∷ [])))) (sym same)
      (subst (λ es. IsTransitive order (values_of es)) (sym (up_to-both t.level t.entries (decided l (t.level + 1) ∷ []) trail.levels.highest (decided-above t.level l (t.level + 1) (omega arith)))) here)
]

-- clauses may be made after a decision
pub CanMake-decide : (order : Order) (names : List ℕ) (t : State) (l : Lit) → IsTrail (decides t l) → IsTransitive order (values_of t.entries) → CanMake order (record { trail = t; names = names }) → CanMake order (record { trail = decides t l; names = names })
CanMake-decide order names t l sound here can = record {
  trail = sound;
  exist = can.exist;
  named = can.named;
  below = below-decided order t l can.trail can.below here;
}

-- the order stays closed up to the decision
pub closed-decide : (order : Order) (names : List ℕ) (t : State) (l : Lit) (head : ℕ) → IsClosedUpTo order (record { trail = t; names = names }) head → IsClosedUpTo order (record { trail = decides t l; names = names }) head
closed-decide order names t l head closed = record {
  within = omega (arith, closed.within, length-append t.entries (decided l (t.level + 1) ∷ []));
  closed = subst (λ ns. IsClosed order ns (values_of (take head (t.entries ++ decided l (t.level + 1) ∷ []))) (values_of (t.entries ++ decided l (t.level + 1) ∷ []))) (append-nil names)
      (closed-more order names [] t.entries (decided l (t.level + 1) ∷ []) head closed.within closed.closed);
}

-- what contracts see of a decision
pub whole-decide : (order : Order) (names places : List ℕ) (t : State) (l : Lit) (ready : Bool) → whole_state order (record { trail = decides t l; names = names }) places false ≡ decides (whole_state order (record { trail = t; names = names }) places ready) l
whole-decide order names places t l ready =
    ap (λ es. state t.vars (whole_clauses order t.clauses places) es (t.level + 1) false) (map-append (renamed names) t.entries (decided l (t.level + 1) ∷ []))

-- clauses may be made after a backtrack
pub CanMake-back : (order : Order) (names : List ℕ) (t : State) (level : ℕ) → level ≤ t.level → IsTrail (backs t level) → CanMake order (record { trail = t; names = names }) → CanMake order (record { trail = backs t level; names = names })
CanMake-back order names t level low sound can = record {
  trail = sound;
  exist = can.exist;
  named = can.named;
  below = λ lower under.
      subst (λ es. IsTransitive order (values_of es)) (sym (up_to-twice lower level t.entries (omega (arith, under))))
      (can.below lower (omega (arith, under, low)));
}

-- the order is closed up to where it was, or up to the last entry that is left
pub closed-back : (order : Order) (names : List ℕ) (t : State) (level head : ℕ) → level ≤ t.level → CanMake order (record { trail = t; names = names }) → IsClosedUpTo order (record { trail = t; names = names }) head → IsClosedUpTo order (record { trail = backs t level; names = names }) (min head (length (up_to level t.entries)))
closed-back order names t level head low can closed = record {
  within = omega arith;
  closed = elim (cases_lt level t.level) [
    | inl under ↦ closed-transitive order names (up_to level t.entries) (min head (length (up_to level t.entries))) (can.below level under)
    | inr over ↦
        let all : up_to level t.entries ≡ t.entries = ap (λ n. up_to n t.entries) (let same : level ≡ t.level = omega (arith, low, over) in same) ∙ up_to-low t.level t.entries can.trail.levels.highest in
        let least : head ≡ min head (length t.entries) = omega (arith, closed.within) in
        subst (λ es. IsClosed order names (values_of (take (min head (length es)) es)) (values_of es)) (sym all)
        (subst (λ n. IsClosed order names (values_of (take n t.entries)) (values_of t.entries)) least closed.closed)
  ];
}

-- what contracts see of a backtrack
pub whole-back : (order : Order) (names places : List ℕ) (t : State) (level : ℕ) (ready : Bool) → whole_state order (record { trail = backs t level; names = names }) places false ≡ backs (whole_state order (record { trail = t; names = names }) places ready) level
whole-back order names places t level ready =
    ap (λ es. state t.vars (whole_clauses order t.clauses places) es level false) (sym (up_to-renamed names level t.entries))
