-- What is counted over the order of a walk.
use Rattle.std.proofs.Common.{◌≡◌, ℕ, ◌<◌, List, length, map, Some, Ok, Err, Result, IfOk, sym, ◌∙◌, ap, subst, All}
use Rattle.std.specs.Prelude.{slice_get}
use Rattle.std.proofs.lemmas.List.{length-map}
use Rattle.std.proofs.lemmas.Option.{slice_get_within, get_or_from_slice_get, same_Some}
use Rattle.list_base.specs.declared.memory.NoMemory.{NoMemory}
use Rattle.bspl_parser.specs.declared.document.Declaration.{Declaration}
use Rattle.reference_graph.specs.PathCounts.{depth_within, saturated, weight_below}
use Rattle.reference_graph.specs.Order.{IsOrder, IsTopological}
use Rattle.protocol_limits.specs.Counts.{count_below, depth, message_count, own_messages, own_privates, private_count}
use Rattle.protocol_limits.specs.Graph.{graph_of}
use Rattle.protocol_limits.specs.inner.SortedDocument.{AreCounts}
use Rattle.protocol_limits.proofs.GraphLemmas.{length_graph}
use Rattle.protocol_limits.proofs.FollowedLemmas.{count_of, start_index}

-- what holds of each item of a list holds of the one at an index
pub all_at : (P : ℕ → Type 0) (xs : List ℕ) (k a : ℕ) → All P xs → slice_get xs k ≡ Some a → P a
all_at P xs k a all at = subst P (get_or_from_slice_get xs k a a at) (all k a (slice_get_within xs k a at))

-- the graph of the document has an order
pub topological_of : (protocols : List Declaration) (g : List (List ℕ)) (order : List ℕ) (top : ℕ) → g ≡ graph_of protocols → IsOrder (graph_of protocols) top order → IsTopological g order
topological_of protocols g order top is is_order = subst (λ (h : List (List ℕ)). IsTopological h order) (sym is) is_order.topological

-- there is a weight for each node
pub weights_fit : (own : Declaration → ℕ) (protocols : List Declaration) (g : List (List ℕ)) (weights : List ℕ) → g ≡ graph_of protocols → weights ≡ map own protocols → length weights ≡ length g
weights_fit own protocols g weights is are = ap length are ∙ length-map _ _ ∙ sym (length_graph protocols) ∙ sym (ap length is)

-- the depth at the top
depth_same : (protocols : List Declaration) (g : List (List ℕ)) (top : ℕ) → g ≡ graph_of protocols → depth_within (length g) g top ≡ depth protocols top
unfolding depth
depth_same protocols g top is =
    ap (λ (h : List (List ℕ)). depth_within (length h) h top) is ∙ ap (λ n. depth_within n (graph_of protocols) top) (length_graph protocols)

pub depth_found : (protocols : List Declaration) (g : List (List ℕ)) (order depths : List ℕ) (top n : ℕ) → g ≡ graph_of protocols → IsOrder (graph_of protocols) top order → All (λ a. slice_get depths a ≡ Some (depth_within (length g) g a)) order → slice_get depths top ≡ Some n → n ≡ depth protocols top
depth_found protocols g order depths top n is is_order are at =
    let index = start_index (graph_of protocols) top order is_order in
    let found = all_at (λ a. slice_get depths a ≡ Some (depth_within (length g) g a)) order index.0 top are index.1 in
    same_Some n (depth protocols top) (sym at ∙ found ∙ ap Some (depth_same protocols g top is))

-- the top has a depth
pub depth_within_bounds : (protocols : List Declaration) (g : List (List ℕ)) (order depths : List ℕ) (top : ℕ) → IsOrder (graph_of protocols) top order → All (λ a. slice_get depths a ≡ Some (depth_within (length g) g a)) order → top < length depths
depth_within_bounds protocols g order depths top is_order are =
    let index = start_index (graph_of protocols) top order is_order in
    slice_get_within depths top (depth_within (length g) g top) (all_at (λ a. slice_get depths a ≡ Some (depth_within (length g) g a)) order index.0 top are index.1)

-- the weights of the document's graph
weight_same : (own : Declaration → ℕ) (protocols : List Declaration) (g : List (List ℕ)) (weights : List ℕ) (a : ℕ) → g ≡ graph_of protocols → weights ≡ map own protocols → weight_below (length g) g weights a ≡ count_below own protocols a
weight_same own protocols g weights a is are =
    ap (λ (h : List (List ℕ)). weight_below (length h) h weights a) is ∙ ap (λ n. weight_below n (graph_of protocols) weights a) (length_graph protocols)
    ∙ ap (λ (ws : List ℕ). weight_below (length protocols) (graph_of protocols) ws a) are

counts_same : (own : Declaration → ℕ) (protocols : List Declaration) (g : List (List ℕ)) (order weights sums : List ℕ) → g ≡ graph_of protocols → weights ≡ map own protocols → All (λ a. slice_get sums a ≡ Some (saturated (weight_below (length g) g weights a))) order → AreCounts (count_below own protocols) order sums
counts_same own protocols g order weights sums is are all k d within =
    all k d within ∙ ap (λ n. Some (saturated n)) (weight_same own protocols g weights _ is are)

-- what was counted of each protocol of the order
pub messages_found : (protocols : List Declaration) (g : List (List ℕ)) (order weights : List ℕ) (result : Result (List ℕ) NoMemory) → g ≡ graph_of protocols → weights ≡ map own_messages protocols → IfOk result (λ sums. All (λ a. slice_get sums a ≡ Some (saturated (weight_below (length g) g weights a))) order) → IfOk result (AreCounts (message_count protocols) order)
unfolding message_count
messages_found protocols g order weights (Ok sums) is are all = counts_same own_messages protocols g order weights sums is are all
messages_found protocols g order weights (Err refusal) is are all = tt

pub privates_found : (protocols : List Declaration) (g : List (List ℕ)) (order weights : List ℕ) (result : Result (List ℕ) NoMemory) → g ≡ graph_of protocols → weights ≡ map own_privates protocols → IfOk result (λ sums. All (λ a. slice_get sums a ≡ Some (saturated (weight_below (length g) g weights a))) order) → IfOk result (AreCounts (private_count protocols) order)
unfolding private_count
privates_found protocols g order weights (Ok sums) is are all = counts_same own_privates protocols g order weights sums is are all
privates_found protocols g order weights (Err refusal) is are all = tt

-- what was counted at the top
pub top_count : (protocols : List Declaration) (count : ℕ → ℕ) (order counts : List ℕ) (top : ℕ) → IsOrder (graph_of protocols) top order → AreCounts count order counts → slice_get counts top ≡ Some (saturated (count top))
top_count protocols count order counts top is_order are =
    let index = start_index (graph_of protocols) top order is_order in
    count_of count order counts index.0 top are index.1
