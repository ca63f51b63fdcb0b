-- The depth of a node is the length of a longest path from it.
use Rattle.std.proofs.Common.{◌≡◌, ℕ, zero, suc, ◌+◌, ◌≤◌, List, [], ◌∷◌, ◌⊎◌, inl, inr, Some, length, map, slice_get, refl, sym, ap, arith, Contains}
use Rattle.std.proofs.lemmas.Bool.{cases_lt}
use Rattle.std.proofs.lemmas.Option.{slice_get_within}
use Rattle.reference_graph.specs.declared.edge.Edge.{Edge}
use Rattle.reference_graph.specs.Graph.{successors}
use Rattle.reference_graph.specs.Path.{IsPath}
use Rattle.reference_graph.specs.Order.{IsTopological}
use Rattle.reference_graph.specs.PathCounts.{greatest, depth_within, IsLongestPath}
use Rattle.list_base.proofs.Members.{cons_cases, nowhere}
use Rattle.list_base.proofs.Membership.{member_at, index_of}
use Rattle.reference_graph.proofs.OrderLemmas.{ends_earlier}
use Rattle.reference_graph.proofs.LawLemmas.{order_is_short}
use Rattle.reference_graph.proofs.DepthLemmas.{depth_within-zero, depth_within-suc}

-- no number is above the greatest
le_greatest : (f : ℕ → ℕ) (bs : List ℕ) (b : ℕ) → Contains bs b → f b ≤ greatest (map f bs)
le_greatest f [] b member = absurd (nowhere b member)
le_greatest f (c ∷ bs) b member =
    elim (cons_cases c bs b member) [
      | inl same ↦ omega (arith, ap f same)
      | inr rest ↦ omega (arith, le_greatest f bs b rest)
    ]

-- the greatest is one of the numbers, unless there is none
greatest_at : (f : ℕ → ℕ) (bs : List ℕ) → (greatest (map f bs) ≡ 0) ⊎ ((k : ℕ) × (b : ℕ) × (slice_get bs k ≡ Some b) × (greatest (map f bs) ≡ f b))
greatest_at f [] = inl refl
greatest_at f (c ∷ bs) =
    elim (greatest_at f bs) [
      | inl none ↦ inr (0, c, refl, omega (arith, none))
      | inr rest ↦ elim (cases_lt (f c) (f rest.1)) [
        | inl less ↦ inr (suc rest.0, rest.1, rest.2, omega (arith, less, rest.3))
        | inr more ↦ inr (0, c, refl, omega (arith, more, rest.3))
      ]
    ]

-- no path within the steps is longer than the depth
not_longer : (g : List (List ℕ)) (path : List Edge) (n a : ℕ) → IsPath g a path → length path ≤ n → length path ≤ depth_within n g a
not_longer g [] n a is_path short = omega arith
not_longer g (s ∷ path) zero a is_path short = absurd (omega arith)
not_longer g (s ∷ path) (suc n) a is_path short =
    let rest : length path ≤ depth_within n g s.node = not_longer g path n s.node is_path.1 (omega arith) in
    omega (
      arith,
      rest,
      depth_within-suc g n a,
      le_greatest (λ b. depth_within n g b + 1) (successors g a) s.node (member_at (successors g a) s.index s.node is_path.0),
    )

-- a path that has the depth's steps
deepest : (g : List (List ℕ)) (n a : ℕ) → (path : List Edge) × IsPath g a path × (length path ≡ depth_within n g a)
deepest g zero a = ([], tt, sym (depth_within-zero g a))
deepest g (suc n) a =
    elim (greatest_at (λ b. depth_within n g b + 1) (successors g a)) [
      | inl none ↦ ([], tt, omega (arith, none, depth_within-suc g n a))
      | inr found ↦ let rest = deepest g n found.1 in
          (record { index = found.0; node = found.1 } ∷ rest.0, (found.2, rest.1), omega (arith, rest.2, found.3, depth_within-suc g n a))
    ]

-- over an order the depth is that of a longest path
pub depth_is_longest : (g : List (List ℕ)) (order : List ℕ) (a : ℕ) → IsTopological g order → Contains order a → IsLongestPath g a (depth_within (length g) g a)
depth_is_longest g order a topological member =
    let at = index_of order a member in
    let path = deepest g (length g) a in
    record {
      path = path.0;
      is_path = path.1;
      steps = path.2;
      longest = λ other is_path.
          let end = ends_earlier g order topological other a at.0 at.1 is_path in
          not_longer g other (length g) a is_path (omega (arith, end.2, slice_get_within order at.0 a at.1, order_is_short g order topological));
    }
