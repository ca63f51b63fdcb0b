-- Paths from a node of an order stay in it, and go to ever earlier indices.
use Rattle.std.proofs.Common.{◌≡◌, ℕ, ◌+◌, ◌<◌, ◌≤◌, List, [], ◌∷◌, ◌++◌, inl, inr, Some, length, take, slice_get, sym, ap, ◌∙◌, arith, Contains}
use Rattle.std.proofs.lemmas.List.Elements.{All-contains}
use Rattle.reference_graph.specs.declared.edge.Edge.{Edge}
use Rattle.reference_graph.specs.Graph.{successors}
use Rattle.reference_graph.specs.Path.{IsPath, last_node, nodes_on}
use Rattle.reference_graph.specs.Order.{IsTopological}
use Rattle.list_base.proofs.Members.{cons_cases, only}
use Rattle.list_base.proofs.Membership.{member_at, early_index, one_index}
use Rattle.reference_graph.proofs.PathLemmas.{last_node-push}

-- a path ends at a index that is earlier by its steps
pub ends_earlier : (g : List (List ℕ)) (order : List ℕ) → IsTopological g order → (path : List Edge) (b k : ℕ) → slice_get order k ≡ Some b → IsPath g b path → (j : ℕ) × (slice_get order j ≡ Some (last_node b path)) × (j + length path ≤ k)
ends_earlier g order topological [] b k at is_path = (k, at, omega arith)
ends_earlier g order topological (s ∷ path) b k at is_path =
    let step = early_index order k s.node (All-contains (Contains (take k order)) (successors g b) s.node (topological.after k b at) (member_at (successors g b) s.index s.node is_path.0)) in
    let rest = ends_earlier g order topological path s.node step.0 step.2 is_path.1 in
    (rest.0, rest.1, omega (arith, step.1, rest.2))

-- no path leads back to its start
no_way_back : (g : List (List ℕ)) (order : List ℕ) → IsTopological g order → (path : List Edge) (b k : ℕ) → slice_get order k ≡ Some b → IsPath g b path → 0 < length path → last_node b path ≡ b → ⊥
no_way_back g order topological path b k at is_path long back =
    let end = ends_earlier g order topological path b k at is_path in
    let same : end.0 ≡ k = one_index order end.0 k b topological.once (end.1 ∙ ap Some back) at in
    omega (arith, same, end.2, long)

-- no path from a node of the order is closed
pub not_closed : (g : List (List ℕ)) (order : List ℕ) → IsTopological g order → (front : List Edge) (last : Edge) (b k : ℕ) → slice_get order k ≡ Some b → IsPath g b (front ++ last ∷ []) → Contains (nodes_on b front) last.node → ⊥
not_closed g order topological [] last b k at is_path again =
    no_way_back g order topological (last ∷ []) b k at is_path (omega arith) (sym (only b last.node again))
not_closed g order topological (s ∷ front) last b k at is_path again =
    elim (cons_cases b (nodes_on s.node front) last.node again) [
      | inl same ↦ no_way_back g order topological (s ∷ (front ++ last ∷ [])) b k at is_path (omega arith) (last_node-push s.node front last ∙ sym same)
      | inr rest ↦ let step = ends_earlier g order topological (s ∷ []) b k at (is_path.0, tt) in
          not_closed g order topological front last s.node step.0 step.1 is_path.1 rest
    ]
