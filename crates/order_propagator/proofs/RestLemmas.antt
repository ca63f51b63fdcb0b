-- What an order trail keeps makes it a trail over the whole formula.
use Rattle.std.proofs.Common.{◌≡◌, ℕ, ◌+◌, ◌-◌, ◌^◌, ◌<◌, ◌≤◌, min, Bool, false, Option, Some, IsTrue, List, [], ◌∷◌, ◌++◌, length, slice_get, sym, ◌∙◌, subst, arith, Contains, take_all, length-append}
use Rattle.list_base.proofs.Membership.{index_of}
use Rattle.clause_core.specs.declared.literal.Lit.{Lit}
use Rattle.clause_core.specs.Numbering.{HasNumber, live, numbered}
use Rattle.order_axioms.specs.declared.order.Order.{Order}
use Rattle.order_axioms.specs.Order.{ClausesForbidCycles, order_list}
use Rattle.sat_trail.specs.Entry.{values_of}
use Rattle.sat_trail.specs.State.{State, last_number}
use Rattle.sat_trail.specs.Trail.{IsTrail}
use Rattle.order_propagator.specs.declared.named_trail.NamedTrail.{NamedTrail}
use Rattle.order_propagator.specs.inner.Closed.{IsClosed, IsTransitive}
use Rattle.order_propagator.specs.inner.Closing.{IsAtRest, IsClosedUpTo, IsKept}
use Rattle.order_propagator.specs.inner.Making.{AddsNamed, CanMake, Grows}
use Rattle.order_propagator.specs.inner.Names.{AreNamed, ArePlaces, HasName}
use Rattle.order_propagator.specs.inner.Whole.{whole_state}
use Rattle.order_propagator.proofs.AddLemmas.{ArePlaces-push, closed-adds}
use Rattle.order_propagator.proofs.BackLemmas.{CanMake-back, CanMake-decide, backs, closed-back, closed-decide, decides}
use Rattle.order_propagator.proofs.GrowthLemmas.{CanMake-adds}
use Rattle.order_propagator.proofs.NameLemmas.{ArePlaces-more}
use Rattle.order_propagator.proofs.NumberLemmas.{numbered-within}
use Rattle.order_propagator.proofs.RuleLemmas.{rest_transitive}
use Rattle.order_propagator.proofs.TrailLemmas.{trail-whole}

-- a clause of the order that is made is in the trail
made-number : (order : Order) (clauses : List (Option (List Lit))) (names : List ℕ) (name : ℕ) (clause : List Lit) → AreNamed order clauses names → Contains names name → HasNumber (numbered (order_list order)) name clause → (number : ℕ) × HasNumber (live clauses) number clause
made-number order clauses names name clause named among has =
    let at = index_of names name among in
    let is_named : HasName names (at.0 + 1) name = record {
      from_one = omega arith;
      there = subst (λ i. slice_get names i ≡ Some name) (let back : at.0 ≡ at.0 + 1 - 1 = omega arith in back) at.1;
    } in
    (at.0 + 1, record { there = named.made (at.0 + 1) name is_named (numbered-within (order_list order) name clause has).1 ∙ has.there })

-- at rest the values are transitive
pub transitive-rest : (order : Order) (t : NamedTrail) (head : ℕ) → CanMake order t → IsClosedUpTo order t head → IsAtRest t head → IsTransitive order (values_of t.trail.entries)
transitive-rest order t head can closed rest =
    rest_transitive order t.names (live t.trail.clauses) (values_of t.trail.entries) all
    (λ name clause among has. made-number order t.trail.clauses t.names name clause can.named among has) (can.trail.ready_propagated rest.ready)
  where
    all : IsClosed order t.names (values_of t.trail.entries) (values_of t.trail.entries)
    all = subst (λ es. IsClosed order t.names (values_of es) (values_of t.trail.entries)) (take_all head t.trail.entries (omega (arith, rest.all))) closed.closed

-- what an order trail keeps makes it a trail
pub trail-kept : (order : Order) (t : NamedTrail) (places : List ℕ) (head : ℕ) (ready : Bool) → ClausesForbidCycles → IsKept order t places head ready → IsTrail (whole_state order t places ready)
trail-kept order t places head ready law kept = trail-whole order t places ready law kept.can_make kept.placed
    (λ is_ready. (transitive-rest order t head kept.can_make kept.closed (kept.rest is_ready), (kept.rest is_ready).ready))

-- an order trail after a decision
pub IsKept-decide : (order : Order) (t : NamedTrail) (new : State) (places : List ℕ) (head : ℕ) (ready : Bool) (l : Lit) → IsKept order t places head ready → IsTrue ready → new ≡ decides t.trail l → IsTrail new → IsKept order (record { trail = new; names = t.names }) places head false
IsKept-decide order t new places head ready l kept is_ready grows sound = rw grows (record {
  can_make = CanMake-decide order t.names t.trail l (subst IsTrail grows sound) (transitive-rest order t head kept.can_make kept.closed (kept.rest is_ready)) kept.can_make;
  placed = kept.placed;
  few = kept.few;
  closed = closed-decide order t.names t.trail l head kept.closed;
  rest = λ impossible. cc;
})

-- an order trail after a backtrack
pub IsKept-back : (order : Order) (t : NamedTrail) (new : State) (places : List ℕ) (level head : ℕ) (ready : Bool) → IsKept order t places head ready → level ≤ t.trail.level → new ≡ backs t.trail level → IsTrail new → IsKept order (record { trail = new; names = t.names }) places (min head (length new.entries)) false
IsKept-back order t new places level head ready kept low goes sound = rw goes (record {
  can_make = CanMake-back order t.names t.trail level low (subst IsTrail goes sound) kept.can_make;
  placed = kept.placed;
  few = kept.few;
  closed = closed-back order t.names t.trail level head low kept.can_make kept.closed;
  rest = λ impossible. cc;
})

-- an order trail with one clause more
pub IsKept-add : (order : Order) (a b : NamedTrail) (places new_places : List ℕ) (clause : List Lit) (name number head : ℕ) (ready : Bool) → IsKept order a places head ready → AddsNamed a clause name b → IsTrail b.trail → name ≡ length (order_list order) + length places + 1 → number ≡ last_number a.trail + 1 → name < 2 ^ 32 → new_places ≡ places ++ number ∷ [] → IsKept order b new_places head false
IsKept-add order a b places new_places clause name number head ready kept adds sound name_is number_is few grows = rw grows (record {
  can_make = CanMake-adds order a b clause name adds sound (omega (arith, name_is)) (λ low. absurd (omega (arith, low, name_is))) kept.can_make;
  placed = subst (λ ns. ArePlaces order ns (places ++ number ∷ [])) (sym adds.names)
      (ArePlaces-push order a.names places name number kept.placed name_is (omega (arith, number_is, kept.can_make.named.all)));
  few = omega (arith, few, name_is, length-append places (number ∷ []));
  closed = closed-adds order a b clause name head adds kept.closed;
  rest = λ impossible. cc;
})

-- an order trail after propagation
pub IsKept-grows : (order : Order) (a b : NamedTrail) (places : List ℕ) (head head' : ℕ) (before now : Bool) → IsKept order a places head before → CanMake order b → Grows order a b → IsClosedUpTo order b head' → (IsTrue now → IsAtRest b head') → IsKept order b places head' now
IsKept-grows order a b places head head' before now kept can g closed rest = record {
  can_make = can;
  placed = subst (λ ns. ArePlaces order ns places) (sym g.names) (ArePlaces-more order a.names g.made places g.of_order kept.placed);
  few = kept.few;
  closed = closed;
  rest = rest;
}
