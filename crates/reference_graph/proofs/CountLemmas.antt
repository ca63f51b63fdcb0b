-- The weight and the depth of a node, by those of the nodes that it refers to.
use Rattle.std.proofs.Common.{◌≡◌, ℕ, ◌+◌, ◌<◌, max, List, [], ◌∷◌, Some, length, take, get_or, map, slice_get, sym, ap, ◌∙◌, arith}
use Rattle.std.specs.List.{sum_by}
use Rattle.std.proofs.lemmas.List.{map_more}
use Rattle.reference_graph.specs.Graph.{successors}
use Rattle.reference_graph.specs.Order.{IsTopological}
use Rattle.reference_graph.specs.PathCounts.{weight_below, depth_within, greatest, saturated}
use Rattle.list_base.proofs.Tables.{AreFilled, filled_before}
use Rattle.reference_graph.proofs.LawLemmas.{order_is_short}
use Rattle.reference_graph.proofs.WeightLemmas.{sum_by-same, weight_in_order, stopped_sum}
use Rattle.reference_graph.proofs.DepthLemmas.{greatest-append, greatest-same, depth_in_order}

-- a node's number is its weight
pub weight_is : (g : List (List ℕ)) (weights order numbers : List ℕ) (i a : ℕ) → IsTopological g order → slice_get order i ≡ Some a → AreFilled 0 (λ b. saturated (weight_below (length g) g weights b)) order numbers i → saturated (get_or weights a 0 + sum_by (λ b. get_or numbers b 0) (successors g a)) ≡ saturated (weight_below (length g) g weights a)
weight_is g weights order numbers i a topological at found =
    let weight = weight_below (length g) g weights in
    let stops = λ (b : ℕ). saturated (weight b) in
    ap (λ n. saturated (get_or weights a 0 + n)) (sum_by-same (λ b. get_or numbers b 0) stops (successors g a) (filled_before 0 stops order numbers i (successors g a) (topological.after i a at) found))
    ∙ stopped_sum 18446744073709551615 weight (get_or weights a 0) (successors g a)
    ∙ ap saturated (sym (weight_in_order g weights order topological (length g) i a (order_is_short g order topological) at))

-- a node's number is its depth
pub depth_is : (g : List (List ℕ)) (order numbers : List ℕ) (i a : ℕ) → IsTopological g order → slice_get order i ≡ Some a → AreFilled 0 (depth_within (length g) g) order numbers i → greatest (map (λ b. get_or numbers b 0 + 1) (successors g a)) ≡ depth_within (length g) g a
depth_is g order numbers i a topological at found =
    let depth = depth_within (length g) g in
    greatest-same (λ b. get_or numbers b 0 + 1) (λ b. depth b + 1) (successors g a)
    (λ k d within. ap (λ n. n + 1) (filled_before 0 depth order numbers i (successors g a) (topological.after i a at) found k d within))
    ∙ sym (depth_in_order g order topological (length g) i a (order_is_short g order topological) at)

-- the greatest with one number more
pub greatest_more : (f : ℕ → ℕ) (bs : List ℕ) (i d : ℕ) → i < length bs → greatest (map f (take (i + 1) bs)) ≡ max (greatest (map f (take i bs))) (f (get_or bs i d))
greatest_more f bs i d within =
    ap greatest (map_more f bs i d within) ∙ greatest-append (map f (take i bs)) (f (get_or bs i d) ∷ [])
    ∙ (let one : greatest (f (get_or bs i d) ∷ []) ≡ f (get_or bs i d) = omega arith in ap (max (greatest (map f (take i bs)))) one)
