-- Where no path is a cycle, there is an order, and no path of references is longer than the depth.
use Rattle.std.proofs.Common.{◌≡◌, ℕ, ◌<◌, List, [], ◌∷◌, inl, inr, length, Option, Some, None, refl, sym, ◌∙◌, ap, subst, arith, Contains, zero, suc}
use Rattle.std.specs.Prelude.{slice_get}
use Rattle.std.specs.List.{cons_option, filter_map}
use Rattle.std.proofs.lemmas.List.Elements.{Contains-push}
use Rattle.std.proofs.lemmas.Option.{slice_get_within}
use Rattle.list_base.proofs.Members.{here_same, there}
use Rattle.list_base.proofs.Membership.{index_of}
use Rattle.bspl_parser.specs.declared.document.Declaration.{Declaration}
use Rattle.bspl_parser.specs.declared.document.Item.{Item}
use Rattle.bspl_parser.specs.declared.document.Item.TheVariants.{Reference}
use Rattle.reference_graph.specs.declared.edge.Edge.{Edge}
use Rattle.reference_graph.specs.Graph.{successors}
use Rattle.reference_graph.specs.Laws.{AcyclicGraphsHaveOrders, DepthsAreLongest, OrdersHaveNoCycle, PathsAreShort}
use Rattle.reference_graph.specs.Order.{IsOrder}
use Rattle.reference_graph.specs.Path.{IsPath}
use Rattle.reference_graph.specs.PathCounts.{IsLongestPath, depth_within}
use Rattle.protocol_paths.specs.Path.{Step}
use Rattle.protocol_paths.specs.ReferencePath.{IsReferencePath, IsStepOf, IsWithinDepth, item_at}
use Rattle.protocol_limits.specs.Counts.{depth}
use Rattle.protocol_limits.specs.Graph.{graph_of, protocol_number, references_of, target_of}
use Rattle.protocol_limits.specs.Survey.{IsUnrolled}
use Rattle.protocol_limits.proofs.GraphLemmas.{all_nodes, length_graph, successors_at}
use Rattle.protocol_limits.proofs.NumberLemmas.{number_cases}

-- there is an order
pub order_of_unrolled : AcyclicGraphsHaveOrders → (protocols : List Declaration) (top : ℕ) → top < length protocols → IsUnrolled protocols top → (order : List ℕ) × IsOrder (graph_of protocols) top order
order_of_unrolled have protocols top within unrolled =
    have (graph_of protocols) top (all_nodes protocols) (subst (λ n. top < n) (sym (length_graph protocols)) within) unrolled

-- an order leaves no cycle
pub unrolled_of_order : OrdersHaveNoCycle → (protocols : List Declaration) (top : ℕ) (order : List ℕ) → IsOrder (graph_of protocols) top order → IsUnrolled protocols top
unrolled_of_order no_cycle protocols top order is_order = λ path is_path. no_cycle (graph_of protocols) top order path is_order is_path

-- what an item at a position refers to is among the references
among_references : (protocols : List Declaration) (items : List Item) (k : ℕ) (i : Item) (b : ℕ) → slice_get items k ≡ Some i → target_of protocols i ≡ Some b → Contains (filter_map (target_of protocols) items) b
among_references protocols [] k i b at target = cc
among_references protocols (j ∷ items) zero i b at target =
    let same : j ≡ i = cc in
    let found : target_of protocols j ≡ Some b = ap (target_of protocols) same ∙ target in
    subst (λ (o : Option ℕ). Contains (cons_option o (filter_map (target_of protocols) items)) b) (sym found) (here_same b (filter_map (target_of protocols) items) b refl)
among_references protocols (j ∷ items) (suc k) i b at target = later (target_of protocols j) (among_references protocols items k i b at target)
  where
    later : (o : Option ℕ) → Contains (filter_map (target_of protocols) items) b → Contains (cons_option o (filter_map (target_of protocols) items)) b
    later None among = among
    later (Some c) among = there c (filter_map (target_of protocols) items) b among

-- a step by a reference is an edge of the graph
edge_of : (protocols : List Declaration) (a : ℕ) (p : Declaration) (s : Step) → slice_get protocols a ≡ Some p → IsStepOf protocols p s → (e : Edge) × (slice_get (successors (graph_of protocols) a) e.index ≡ Some e.node) × (slice_get protocols e.node ≡ Some s.target)
edge_of protocols a p s at step = elim (number_cases protocols s.reference.protocol.text) [
  | inl none ↦ absurd (let never : None ≡ Some s.target = sym none.1 ∙ step.target in cc)
  | inr some ↦
      let target : slice_get protocols some.0 ≡ Some s.target = some.4 ∙ sym some.3 ∙ step.target in
      let among : Contains (references_of protocols p) some.0 = by s.position step.item some.0 some.2 in
      let index = index_of (references_of protocols p) some.0 among in
      (record { index = index.0; node = some.0 }, subst (λ (bs : List ℕ). slice_get bs index.0 ≡ Some some.0) (sym (successors_at protocols a p at)) index.1, target)
]
  where
    by : (position : ℕ) → item_at p position ≡ Some (Reference s.reference) → (b : ℕ) → protocol_number protocols s.reference.protocol.text ≡ Some b → Contains (references_of protocols p) b
    by zero item b number = cc
    by (suc k) item b number = among_references protocols p.body k (Reference s.reference) b item number

-- a path of references is a path of as many edges
path_of : (protocols : List Declaration) (a : ℕ) (p : Declaration) (path : List Step) → slice_get protocols a ≡ Some p → IsReferencePath protocols p path → (edges : List Edge) × IsPath (graph_of protocols) a edges × (length edges ≡ length path)
path_of protocols a p [] at is_path = ([], tt, refl)
path_of protocols a p (s ∷ path) at is_path =
    let edge = edge_of protocols a p s at is_path.0 in
    let rest = path_of protocols edge.0.node s.target path edge.2 is_path.1 in
    (edge.0 ∷ rest.0, (edge.1, rest.1), omega (arith, rest.2))

-- no path has more references than the depth
pub within_depth : AcyclicGraphsHaveOrders → DepthsAreLongest → (protocols : List Declaration) (top : ℕ) (p : Declaration) → slice_get protocols top ≡ Some p → IsUnrolled protocols top → IsWithinDepth protocols p (depth protocols top)
unfolding depth
within_depth have longest protocols top p at unrolled path is_path =
    let found = order_of_unrolled have protocols top (slice_get_within protocols top p at) unrolled in
    let last : Contains found.0 top = subst (λ (xs : List ℕ). Contains xs top) (sym found.1.last) (Contains-push found.1.before top) in
    let edges = path_of protocols top p path at is_path in
    let deep : IsLongestPath (graph_of protocols) top (depth_within (length protocols) (graph_of protocols) top) =
    subst (λ n. IsLongestPath (graph_of protocols) top (depth_within n (graph_of protocols) top)) (length_graph protocols) (longest (graph_of protocols) found.0 top found.1.topological last) in
    omega (arith, edges.2, deep.longest edges.0 edges.1)

-- no path has more references than there are protocols
pub within_protocols : AcyclicGraphsHaveOrders → PathsAreShort → (protocols : List Declaration) (top : ℕ) (p : Declaration) → slice_get protocols top ≡ Some p → IsUnrolled protocols top → IsWithinDepth protocols p (length protocols)
within_protocols have short protocols top p at unrolled path is_path =
    let found = order_of_unrolled have protocols top (slice_get_within protocols top p at) unrolled in
    let edges = path_of protocols top p path at is_path in
    omega (arith, edges.2, short (graph_of protocols) top found.0 edges.0 found.1 edges.1, length_graph protocols)
