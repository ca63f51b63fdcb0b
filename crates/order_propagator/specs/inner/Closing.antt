-- How an order is closed entry by entry, and what an order trail keeps of its parts.
use Rattle.std.specs.Prelude.{◌≡◌, ℕ, ◌+◌, ◌^◌, ◌<◌, ◌≤◌, Bool, Option, Some, None, IsTrue, List}
use Rattle.std.specs.Prelude.{length, take}
use Rattle.clause_core.specs.declared.literal.Lit.{Lit}
use Rattle.clause_core.specs.Propagation.{IsFalsified}
use Rattle.order_axioms.specs.declared.kind_pair.KindPair.{KindPair}
use Rattle.order_axioms.specs.declared.order.Order.{Order}
use Rattle.order_axioms.specs.Order.{AreKinds, comes_before, order_list}
use Rattle.sat_trail.specs.Entry.{values_of}
use Rattle.sat_trail.specs.State.{State, numbering_of}
use Rattle.order_propagator.specs.declared.named_trail.NamedTrail.{NamedTrail}
use Rattle.order_propagator.specs.declared.stop.Stop.{Stop}
use Rattle.order_propagator.specs.declared.stop.Stop.TheVariants.{Falsified, NoMemory}
use Rattle.order_propagator.specs.inner.Closed.{Precedes, Follows, IsClosed}
use Rattle.order_propagator.specs.inner.Making.{CanMake}
use Rattle.order_propagator.specs.inner.Names.{ArePlaces}

-- what follows for a third kind from the first two is set, or its clause is made
pub record ClosesCycle (order : Order) (known : ℕ → Option Bool) (names : List ℕ)
    (now : ℕ → Option Bool) (x y z : ℕ) : Type 0 where
  pub after : Precedes order known y z → Follows order names now x y z
  pub before : Precedes order known z x → Follows order names now z x y

-- with each third kind, what follows from the two is set, or its clause is made
abbrev pub ClosesPair :
    Order → (ℕ → Option Bool) → List ℕ → (ℕ → Option Bool) → KindPair → Type 0
ClosesPair order known names now pair = (z : ℕ) → AreKinds order pair.first pair.second z →
    ClosesCycle order known names now pair.first pair.second z

-- what follows from the two kinds of which the literal speaks is set, or its clause is made
abbrev pub ClosesLit :
    Order → (ℕ → Option Bool) → List ℕ → (ℕ → Option Bool) → Lit → Type 0
ClosesLit order known names now l = (x y z : ℕ) → AreKinds order x y z →
    comes_before order x y ≡ l → ClosesCycle order known names now x y z

-- the order is closed under the values of the first entries
pub record IsClosedUpTo (order : Order) (t : NamedTrail) (head : ℕ) : Type 0 where
  pub within : head ≤ length t.trail.entries
  pub closed : IsClosed order t.names
      (values_of (take head t.trail.entries)) (values_of t.trail.entries)

-- the order is closed under the values of all entries, and the trail is ready
pub record IsAtRest (t : NamedTrail) (head : ℕ) : Type 0 where
  pub all : head ≡ length t.trail.entries
  pub ready : IsTrue t.trail.ready

-- the clause for which propagation stops is false
abbrev pub IsStop : State → Stop → Type 0
IsStop t (Falsified number) = IsFalsified (numbering_of t) (values_of t.entries) number
IsStop t NoMemory = Unit {0}

-- propagation stops at the false clause that was found
abbrev pub IsStopAt : Option ℕ → Stop → Type 0
IsStopAt None stop = ⊥
IsStopAt (Some number) stop = stop ≡ Falsified number

-- what an order trail keeps of its parts
pub record IsKept
    (order : Order) (t : NamedTrail) (places : List ℕ) (head : ℕ) (ready : Bool) : Type 0 where
  pub can_make : CanMake order t
  pub placed : ArePlaces order t.names places
  pub few : length (order_list order) + length places < 2 ^ 32
  pub closed : IsClosedUpTo order t head
  pub rest : IsTrue ready → IsAtRest t head
