-- An order that is closed under the first entries, as entries come and go.
use Rattle.std.proofs.Common.{◌≡◌, ℕ, ◌≤◌, Bool, Option, Some, None, List, [], ◌++◌, inl, inr, length, take, sym, ap, subst, arith, length-append}
use Rattle.std.proofs.lemmas.List.{take-append-le}
use Rattle.std.proofs.lemmas.List.Elements.{Contains-append_left}
use Rattle.order_axioms.specs.declared.order.Order.{Order}
use Rattle.order_axioms.specs.Order.{comes_before}
use Rattle.sat_trail.specs.declared.entry.Entry.{Entry}
use Rattle.sat_trail.specs.Entry.{values_of}
use Rattle.sat_trail.specs.State.{State}
use Rattle.order_propagator.specs.declared.named_trail.NamedTrail.{NamedTrail}
use Rattle.order_propagator.specs.inner.Closed.{Follows, IsClosed, IsTransitive, Precedes}
use Rattle.order_propagator.specs.inner.Closing.{ClosesCycle, IsClosedUpTo}
use Rattle.order_propagator.specs.inner.Making.{Grows}
use Rattle.order_propagator.proofs.EntryLemmas.{value-kept, value-prefix}

-- what comes before another kind still does after more entries
pub precedes-more : (order : Order) (es more : List Entry) (x y : ℕ) → Precedes order (values_of es) x y → Precedes order (values_of (es ++ more)) x y
precedes-more order es more x y set = value-kept es more (comes_before order x y).var (comes_before order x y).positive set

-- it does so under all entries if it does under the first ones
pub precedes-prefix : (order : Order) (n : ℕ) (es : List Entry) (x y : ℕ) → Precedes order (values_of (take n es)) x y → Precedes order (values_of es) x y
precedes-prefix order n es x y set = value-prefix n es (comes_before order x y).var (comes_before order x y).positive set

-- what follows stays set, and a clause that is made stays
pub follows-more : (order : Order) (names made : List ℕ) (es more : List Entry) (x y z : ℕ) → Follows order names (values_of es) x y z → Follows order (names ++ made) (values_of (es ++ more)) x y z
follows-more order names made es more x y z follows = elim follows [
  | inl set ↦ inl (precedes-more order es more x z set)
  | inr is_made ↦ inr (record {
    number = is_made.number;
    forbids = is_made.forbids;
    among = Contains-append_left names made is_made.number is_made.among;
  })
]

-- what is closed stays closed
pub closed-more : (order : Order) (names made : List ℕ) (es more : List Entry) (head : ℕ) → head ≤ length es → IsClosed order names (values_of (take head es)) (values_of es) → IsClosed order (names ++ made) (values_of (take head (es ++ more))) (values_of (es ++ more))
closed-more order names made es more head within closed = record {
  follows = λ x y z kinds first second.
      follows-more order names made es more x y z (closed.follows x y z kinds
      (subst (λ ds. Precedes order (values_of ds) x y) same first) (subst (λ ds. Precedes order (values_of ds) y z) same second));
}
  where
    same : take head (es ++ more) ≡ take head es
    same = take-append-le head es more within

-- what follows from the values stays set as a trail grows
pub follows-grows : (order : Order) (a b : NamedTrail) (x y z : ℕ) → Grows order a b → Follows order a.names (values_of a.trail.entries) x y z → Follows order b.names (values_of b.trail.entries) x y z
follows-grows order a b x y z g follows =
    subst (λ es. Follows order b.names (values_of es) x y z) (sym (ap (λ (s : State). s.entries) g.entries))
    (subst (λ ns. Follows order ns (values_of (a.trail.entries ++ g.added)) x y z) (sym g.names) (follows-more order a.names g.made a.trail.entries g.added x y z follows))

-- the same of a cycle
pub closes-grows : (order : Order) (known : ℕ → Option Bool) (a b : NamedTrail) (x y z : ℕ) → Grows order a b → ClosesCycle order known a.names (values_of a.trail.entries) x y z → ClosesCycle order known b.names (values_of b.trail.entries) x y z
closes-grows order known a b x y z g closes = record {
  after = λ set. follows-grows order a b x y z g (closes.after set);
  before = λ set. follows-grows order a b z x y g (closes.before set);
}

-- an order stays closed as a trail grows
pub closed-grows : (order : Order) (a b : NamedTrail) (head : ℕ) → Grows order a b → IsClosedUpTo order a head → IsClosedUpTo order b head
closed-grows order a b head g closed = record {
  within = subst (λ es. head ≤ length es) (sym entries) (omega (arith, closed.within, length-append a.trail.entries g.added));
  closed = subst (λ es. IsClosed order b.names (values_of (take head es)) (values_of es)) (sym entries)
      (subst (λ ns. IsClosed order ns (values_of (take head (a.trail.entries ++ g.added))) (values_of (a.trail.entries ++ g.added))) (sym g.names)
      (closed-more order a.names g.made a.trail.entries g.added head closed.within closed.closed));
}
  where
    entries : b.trail.entries ≡ a.trail.entries ++ g.added
    entries = ap (λ (s : State). s.entries) g.entries

-- transitive values close the order
pub closed-transitive : (order : Order) (names : List ℕ) (es : List Entry) (head : ℕ) → IsTransitive order (values_of es) → IsClosed order names (values_of (take head es)) (values_of es)
closed-transitive order names es head transitive = record {
  follows = λ x y z kinds first second. inl (transitive x y z kinds (precedes-prefix order head es x y first) (precedes-prefix order head es y z second));
}

-- no entries leave nothing to close
pub closed-none : (order : Order) (names : List ℕ) (now : ℕ → Option Bool) → IsClosed order names (values_of []) now
closed-none order names now = record { follows = λ x y z kinds first second. absurd (let clash : None ≡ Some (comes_before order x y).positive = first in cc) }

-- what comes before another kind still does as a trail grows
pub precedes-grows : (order : Order) (a b : NamedTrail) (x y : ℕ) → Grows order a b → Precedes order (values_of a.trail.entries) x y → Precedes order (values_of b.trail.entries) x y
precedes-grows order a b x y g set = subst (λ es. Precedes order (values_of es) x y) (sym (ap (λ (s : State). s.entries) g.entries)) (precedes-more order a.trail.entries g.added x y set)
