-- What orders and cycles say of one another.
use Rattle.std.proofs.Common.{◌≡◌, ℕ, ◌<◌, ◌≤◌, List, [], ◌∷◌, ◌⊎◌, inl, inr, Some, length, slice_get, refl, sym, ap, ◌∙◌, subst, arith, Contains}
use Rattle.std.proofs.lemmas.Bool.{cases_order, eqb-true}
use Rattle.std.proofs.lemmas.Option.{slice_get_within}
use Rattle.std.proofs.lemmas.Map.Views.{Contains-from_any}
use Rattle.std.proofs.lemmas.Bool.Decides.{Decides-eqb}
use Rattle.std.proofs.lemmas.List.Elements.{All-contains, Contains-push}
use Rattle.std.proofs.lemmas.Map.Made.{IsDistinct-from_AllPairs}
use Rattle.std.proofs.lemmas.Map.Steps.{length-le_from_distinct_below}
use Rattle.reference_graph.specs.declared.edge.Edge.{Edge}
use Rattle.reference_graph.specs.Graph.{successors}
use Rattle.reference_graph.specs.Path.{IsPath, IsReached, last_node}
use Rattle.reference_graph.specs.Cycle.{IsBefore, IsCycle, IsFirstCycle}
use Rattle.reference_graph.specs.Order.{IsTopological, IsOrder}
use Rattle.list_base.proofs.Membership.{index_of, member_at}
use Rattle.reference_graph.proofs.OrderLemmas.{ends_earlier, not_closed}

-- the start is in its order
start_index : (g : List (List ℕ)) (start : ℕ) (order : List ℕ) → IsOrder g start order → (k : ℕ) × (slice_get order k ≡ Some start)
start_index g start order is_order = index_of order start (subst (λ (xs : List ℕ). Contains xs start) (sym is_order.last) (Contains-push is_order.before start))

-- where there is an order, no path is a cycle
pub no_cycle : (g : List (List ℕ)) (start : ℕ) (order : List ℕ) (path : List Edge) → IsOrder g start order → IsPath g start path → ¬ IsCycle start path
no_cycle g start order path is_order is_path cycle =
    let at = start_index g start order is_order in
    not_closed g order is_order.topological cycle.before cycle.last start at.0 at.1
    (subst (IsPath g start) cycle.whole is_path) cycle.returns

-- the edge at the index to the node
abbrev edge_to : ℕ → ℕ → Edge
edge_to index node = record { index = index; node = node }

-- paths of the same steps are the same
same_path : (s t : Edge) (path other : List Edge) → s.index ≡ t.index → s.node ≡ t.node → path ≡ other → s ∷ path ≡ t ∷ other
same_path s t path other index node rest =
    let step : s ≡ t = ap (λ (p : ℕ). edge_to p s.node) index ∙ ap (edge_to t.index) node in
    ap (λ (r : Edge). r ∷ path) step ∙ ap (λ (rs : List Edge). t ∷ rs) rest

-- of two paths one is before the other, unless they are one
three_cases : (g : List (List ℕ)) (a : ℕ) (path other : List Edge) → IsPath g a path → IsPath g a other → (path ≡ other) ⊎ (IsBefore path other ⊎ IsBefore other path)
three_cases g a [] [] p q = inl refl
three_cases g a [] (t ∷ other) p q = inr (inl tt)
three_cases g a (s ∷ path) [] p q = inr (inr tt)
three_cases g a (s ∷ path) (t ∷ other) p q =
    elim (cases_order s.index t.index) [
      | inl same ↦ let e : slice_get (successors g a) s.index ≡ slice_get (successors g a) t.index = ap (slice_get (successors g a)) same in
          let node : s.node ≡ t.node = cc in
          elim (three_cases g s.node path other p.1 (subst (λ b. IsPath g b other) (sym node) q.1)) [
            | inl rest ↦ inl (same_path s t path other same node rest)
            | inr (inl before) ↦ inr (inl (inr (same, before)))
            | inr (inr after) ↦ inr (inr (inr (sym same, after)))
          ]
      | inr (inl less) ↦ inr (inl (inl less))
      | inr (inr more) ↦ inr (inr (inl more))
    ]

-- the first cycle ends at one node
pub one_cycle : (g : List (List ℕ)) (start a b : ℕ) → IsFirstCycle g start a → IsFirstCycle g start b → a ≡ b
one_cycle g start a b one other =
    elim (three_cases g start one.path other.path one.is_path other.is_path) [
      | inl same ↦ sym one.ends ∙ ap (last_node start) same ∙ other.ends
      | inr (inl before) ↦ absurd (other.first one.path one.is_path one.cycle before)
      | inr (inr after) ↦ absurd (one.first other.path other.is_path other.cycle after)
    ]

-- an order has no more nodes than the graph
pub order_is_short : (g : List (List ℕ)) (order : List ℕ) → IsTopological g order → length order ≤ length g
order_is_short g order topological =
    length-le_from_distinct_below order (length g) (IsDistinct-from_AllPairs Decides-eqb order topological.once)
    (λ q is_there. All-contains (λ b. b < length g) order q topological.nodes (Contains-from_any (λ x y same. eqb-true x y same) q order is_there))

-- where there is an order, paths have fewer edges than there are nodes
pub path_is_short : (g : List (List ℕ)) (start : ℕ) (order : List ℕ) (path : List Edge) → IsOrder g start order → IsPath g start path → length path < length g
path_is_short g start order path is_order is_path =
    let at = start_index g start order is_order in
    let end = ends_earlier g order is_order.topological path start at.0 at.1 is_path in
    omega (arith, end.2, slice_get_within order at.0 start at.1, order_is_short g order is_order.topological)

-- an order has what is reached
pub has_reached : (g : List (List ℕ)) (start node : ℕ) (order : List ℕ) → IsOrder g start order → IsReached g start node → Contains order node
has_reached g start node order is_order reached =
    let at = start_index g start order is_order in
    let end = ends_earlier g order is_order.topological reached.path start at.0 at.1 reached.is_path in
    member_at order end.0 node (end.1 ∙ ap Some reached.ends)
