-- How the rows of an order follow the entries of a trail.
use Rattle.std.specs.Prelude.{◌≡◌, ℕ, Bool, List, ◌++◌, map}
use Rattle.clause_core.specs.declared.literal.Lit.{Lit}
use Rattle.order_axioms.specs.declared.order.Order.{Order}
use Rattle.order_propagator.specs.inner.OrderRows.{RowState}
use Rattle.sat_trail.specs.declared.entry.Entry.{Entry}
use Rattle.order_propagator.specs.declared.named_trail.NamedTrail.{NamedTrail}
use Rattle.order_propagator.specs.inner.Closing.{IsClosedUpTo, IsKept}
use Rattle.order_propagator.specs.inner.Making.{CanMake, Makes}

-- the rows are of the order, and have the literals of the first entries
pub record HaveFirst (order : Order) (rows : RowState) (entries : List Entry) : Type 0 where
  pub of_order : rows.order ≡ order
  pub rest : List Lit
  pub whole : map (λ e. e.lit) entries ≡ rows.lits ++ rest

-- they have those of all entries
pub record HaveAll (order : Order) (rows : RowState) (entries : List Entry) : Type 0 where
  pub of_order : rows.order ≡ order
  pub all : rows.lits ≡ map (λ e. e.lit) entries

-- the order is closed up to the head, and the rest can be done with the rows
pub record IsClosing (order : Order) (rows : RowState) (t : NamedTrail) (head : ℕ) : Type 0 where
  pub can : CanMake order t
  pub closed : IsClosedUpTo order t head
  pub first : HaveFirst order rows t.trail.entries

-- clauses of the order can be made, and the rows have the literals of all entries
pub record IsCaughtUp (order : Order) (rows : RowState) (t : NamedTrail) : Type 0 where
  pub can : CanMake order t
  pub all : HaveAll order rows t.trail.entries

-- the trail grew, clauses can be made on, and the rows have the literals of the first entries
pub record MakesWithRows
    (order : Order) (old : NamedTrail) (rows : RowState) (new : NamedTrail) : Type 0 where
  pub makes : Makes order old new
  pub first : HaveFirst order rows new.trail.entries

-- what an order trail keeps of its parts and its rows
pub record IsKeptWithRows (order : Order) (rows : RowState) (t : NamedTrail) (places : List ℕ)
    (head : ℕ) (ready : Bool) : Type 0 where
  pub kept : IsKept order t places head ready
  pub first : HaveFirst order rows t.trail.entries
