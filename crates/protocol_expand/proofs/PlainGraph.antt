-- A plain protocol refers to nothing, so what is counted along paths is its own.
use Rattle.std.proofs.Common.{◌≡◌, ℕ, List, [], ◌∷◌, ◌++◌, length, map, Some, refl, ◌∙◌, ap, subst, arith}
use Rattle.std.specs.Prelude.{slice_get}
use Rattle.std.specs.List.{All, filter_map, flat_map, sum_by}
use Rattle.std.proofs.lemmas.List.Elements.{All-head, All-tail}
use Rattle.bspl_parser.specs.declared.document.Declaration.{Declaration}
use Rattle.bspl_parser.specs.declared.document.Item.{Item}
use Rattle.bspl_parser.specs.declared.document.Item.TheVariants as item
use Rattle.protocol_names.specs.Names.{message_words}
use Rattle.protocol_names.specs.Plain.{IsMessage}
use Rattle.reference_graph.specs.PathCounts.{greatest, depth_within, node_paths, weight_below}
use Rattle.reference_graph.specs.Graph.{successors}
use Rattle.reference_graph.specs.declared.edge.Edge.{Edge}
use Rattle.reference_graph.specs.Laws.{WeightsAddUp}
use Rattle.reference_graph.specs.Path.{IsPath}
use Rattle.protocol_limits.specs.Counts.{depth, message_count, own_messages, own_privates, private_count}
use Rattle.protocol_limits.specs.Graph.{graph_of, target_of}
use Rattle.protocol_limits.specs.Laws.{ReferencesAreAGraph}
use Rattle.protocol_limits.specs.Survey.{IsUnrolled}
use Rattle.protocol_expand.specs.Expansion.{IsPlain}
use Rattle.protocol_expand.proofs.PlainParts.{messages_alone}

-- messages refer to nothing
no_targets : (protocols : List Declaration) (body : List Item) → All IsMessage body → filter_map (target_of protocols) body ≡ []
no_targets protocols [] alone = refl
no_targets protocols (item.Message s ∷ body) alone = no_targets protocols body (All-tail IsMessage (item.Message s) body alone)
no_targets protocols (item.Reference r ∷ body) alone = absurd (All-head IsMessage (item.Reference r) body alone)

-- so nothing follows in the graph
leaf : ReferencesAreAGraph → (p : Declaration) → IsPlain p → successors (graph_of (p ∷ [])) 0 ≡ []
leaf graphs p plain = graphs.at (p ∷ []) 0 p refl ∙ no_targets (p ∷ []) p.body (messages_alone p plain)

-- a path has no edge
no_edge : ReferencesAreAGraph → (p : Declaration) → IsPlain p → (path : List Edge) → IsPath (graph_of (p ∷ [])) 0 path → path ≡ []
no_edge graphs p plain [] is_path = refl
no_edge graphs p plain (s ∷ path) is_path =
    let never : slice_get [] s.index ≡ Some s.node = subst (λ (bs : List ℕ). slice_get bs s.index ≡ Some s.node) (leaf graphs p plain) is_path.0 in absurd cc

-- and no cycle
no_cycle : (a : ℕ) (path before : List Edge) (last : Edge) → path ≡ [] → path ≡ before ++ last ∷ [] → ⊥
no_cycle a path [] last none whole = cc
no_cycle a path (s ∷ before) last none whole = cc

-- so no path is a cycle
pub unrolled : ReferencesAreAGraph → (p : Declaration) → IsPlain p → IsUnrolled (p ∷ []) 0
unrolled graphs p plain path is_path cycle = no_cycle 0 path cycle.before cycle.last (no_edge graphs p plain path is_path) cycle.whole

-- the path has no reference
pub depth_here : ReferencesAreAGraph → (p : Declaration) → IsPlain p → depth (p ∷ []) 0 ≡ 0
unfolding depth depth_within node_paths
depth_here graphs p plain = ap (λ (bs : List ℕ). greatest (map length ([] ∷ flat_map (λ b. map (λ (path : List ℕ). b ∷ path) (node_paths (graph_of (p ∷ [])) 0 b)) bs))) (leaf graphs p plain)

-- what is weighed is the protocol itself
weight_here : ReferencesAreAGraph → WeightsAddUp → (p : Declaration) (weight : ℕ) → IsPlain p → weight_below 1 (graph_of (p ∷ [])) (weight ∷ []) 0 ≡ weight
weight_here graphs adds p weight plain =
    let step = adds.below (graph_of (p ∷ [])) (weight ∷ []) 0 0 in
    let none : sum_by (weight_below 0 (graph_of (p ∷ [])) (weight ∷ [])) (successors (graph_of (p ∷ [])) 0) ≡ 0 = ap (λ (bs : List ℕ). sum_by (weight_below 0 (graph_of (p ∷ [])) (weight ∷ [])) bs) (leaf graphs p plain) in
    omega (arith, step, none)

-- the messages that are counted are its own
pub messages_here : ReferencesAreAGraph → WeightsAddUp → (p : Declaration) → IsPlain p → message_count (p ∷ []) 0 ≡ length (message_words p)
unfolding message_count
messages_here graphs adds p plain = weight_here graphs adds p (own_messages p) plain

-- and so are the private parameters
pub privates_here : ReferencesAreAGraph → WeightsAddUp → (p : Declaration) → IsPlain p → private_count (p ∷ []) 0 ≡ length p.private
unfolding private_count
privates_here graphs adds p plain = weight_here graphs adds p (own_privates p) plain
