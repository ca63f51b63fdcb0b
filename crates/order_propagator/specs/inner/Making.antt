-- What a trail with names has, and how it grows while clauses of the order are made.
use Rattle.std.specs.Prelude.{◌≡◌, ℕ, ◌+◌, ◌≤◌, ◌⊎◌, IsSome, List, [], ◌∷◌, ◌++◌, length, All}
use Rattle.clause_core.specs.declared.literal.Lit.{Lit}
use Rattle.clause_core.specs.Clause.{VariablesExist}
use Rattle.clause_core.specs.Numbering.{HasNumber, numbered}
use Rattle.order_axioms.specs.declared.order.Order.{Order}
use Rattle.order_axioms.specs.Order.{order_list}
use Rattle.sat_trail.specs.declared.entry.Entry.{Entry}
use Rattle.sat_trail.specs.State.{State, numbering_of, last_number}
use Rattle.sat_trail.specs.Trail.{IsTrail, Adds, HasTwoOpen}
use Rattle.order_propagator.specs.declared.named_trail.NamedTrail.{NamedTrail}
use Rattle.order_propagator.specs.inner.Closed.{IsTransitiveBelow}
use Rattle.order_propagator.specs.inner.Names.{AreNamed}

-- the order's variables exist, the clauses have names, and lower levels are closed
pub record CanMake (order : Order) (t : NamedTrail) : Type 0 where
  pub trail : IsTrail t.trail
  pub exist : All (VariablesExist t.trail.vars) (order_list order)
  pub named : AreNamed order t.trail.clauses t.names
  pub below : IsTransitiveBelow order t.trail

-- the order has a clause of the number that may be added to the trail
pub record MayBeMade (order : Order) (t : State) (number : ℕ) : Type 0 where
  pub clause : List Lit
  pub has_number : HasNumber (numbered (order_list order)) number clause
  pub open_at : (t.level ≡ 0) ⊎ HasTwoOpen t.entries t.level clause

-- the clause was added under the name
pub record AddsNamed
    (old : NamedTrail) (clause : List Lit) (name : ℕ) (new : NamedTrail) : Type 0 where
  pub adds : Adds old.trail clause new.trail (last_number old.trail + 1)
  pub names : new.names ≡ old.names ++ name ∷ []

-- forced entries of the level and clauses of the order were added; the rest stays
pub record Grows (order : Order) (old new : NamedTrail) : Type 0 where
  pub added : List Entry
  pub made : List ℕ
  pub forced : All (λ e. (e.level ≡ old.trail.level) × IsSome e.reason) added
  pub entries : new.trail ≡ record old.trail {
    clauses = new.trail.clauses;
    entries = old.trail.entries ++ added;
    ready = new.trail.ready;
  }
  pub names : new.names ≡ old.names ++ made
  pub of_order : All (λ name. name ≤ length (order_list order)) made
  pub more : last_number old.trail ≤ last_number new.trail
  pub kept : (number : ℕ) → number ≤ last_number old.trail →
      numbering_of new.trail number ≡ numbering_of old.trail number

-- the trail grew, and clauses of the order can be made on
pub record Makes (order : Order) (old new : NamedTrail) : Type 0 where
  pub can : CanMake order new
  pub grows : Grows order old new
