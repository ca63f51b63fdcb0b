-- How many paths lead on from a node, by those from the nodes that it refers to.
use Rattle.std.proofs.Common.{◌≡◌, ℕ, zero, suc, ◌+◌, ◌≤◌, min, List, [], ◌∷◌, Some, length, get_or, map, sum, slice_get, refl, sym, ap, ◌∙◌, arith, All}
use Rattle.std.specs.List.{flat_map, sum_by}
use Rattle.std.proofs.lemmas.List.{map-append}
use Rattle.std.proofs.lemmas.List.Elements.{All-head, All-tail}
use Rattle.std.proofs.lemmas.Option.{slice_get_within}
use Rattle.std.proofs.lemmas.List.Sums.{sum_by-cons, sum_by-append}
use Rattle.reference_graph.specs.Graph.{successors}
use Rattle.reference_graph.specs.Order.{IsTopological}
use Rattle.reference_graph.specs.PathCounts.{node_paths, end_of_nodes, weight_below}
use Rattle.list_base.proofs.Settled.{settled_below}

-- the weight of a path
abbrev weighed : List ℕ → ℕ → List ℕ → ℕ
weighed weights a path = get_or weights (end_of_nodes a path) 0

-- sums over numbers that are equal are equal
pub sum_by-same : (f h : ℕ → ℕ) (bs : List ℕ) → All (λ b. f b ≡ h b) bs → sum_by f bs ≡ sum_by h bs
sum_by-same f h [] same = refl
sum_by-same f h (b ∷ bs) same =
    let first = All-head (λ c. f c ≡ h c) b bs same in
    let rest = sum_by-same f h bs (All-tail (λ c. f c ≡ h c) b bs same) in
    omega (arith, sum_by-cons f b bs, sum_by-cons h b bs, first, rest)

-- a path that goes on to a node ends where the rest ends
onward : (weights : List ℕ) (a b : ℕ) (ps : List (List ℕ)) → map (weighed weights a) (map (λ path. b ∷ path) ps) ≡ map (weighed weights b) ps
onward weights a b [] = refl
onward weights a b (p ∷ ps) = ap (λ (xs : List ℕ). weighed weights b p ∷ xs) (onward weights a b ps)

-- the paths by their first nodes
branches : (g : List (List ℕ)) (weights : List ℕ) (n a : ℕ) (bs : List ℕ) → sum (map (weighed weights a) (flat_map (λ b. map (λ path. b ∷ path) (node_paths g n b)) bs)) ≡ sum_by (weight_below n g weights) bs
unfolding weight_below
branches g weights n a [] = refl
branches g weights n a (b ∷ bs) =
    let here = map (λ path. b ∷ path) (node_paths g n b) in
    let there = flat_map (λ c. map (λ path. c ∷ path) (node_paths g n c)) bs in
    let parts = map-append (weighed weights a) here there in
    let apart = sum_by-append (λ x. x) (map (weighed weights a) here) (map (weighed weights a) there) in
    ap sum parts ∙ apart ∙ ap (λ n. n + sum (map (weighed weights a) there)) (ap sum (onward weights a b (node_paths g n b)))
    ∙ ap (λ m. sum (map (weighed weights b) (node_paths g n b)) + m) (branches g weights n a bs)
    ∙ sym (sum_by-cons (weight_below n g weights) b bs)

-- without a step there is one path
pub weight_below-zero : (g : List (List ℕ)) (weights : List ℕ) (a : ℕ) → weight_below 0 g weights a ≡ get_or weights a 0
unfolding weight_below node_paths
weight_below-zero g weights a = omega arith

-- the path without a step, and those that go on to each node
pub weight_below-suc : (g : List (List ℕ)) (weights : List ℕ) (n a : ℕ) → weight_below (suc n) g weights a ≡ get_or weights a 0 + sum_by (weight_below n g weights) (successors g a)
unfolding weight_below node_paths
weight_below-suc g weights n a =
    sum_by-cons (λ x. x) (get_or weights a 0) (map (weighed weights a) (flat_map (λ b. map (λ path. b ∷ path) (node_paths g n b)) (successors g a)))
    ∙ ap (λ m. get_or weights a 0 + m) (branches g weights n a (successors g a))

-- a node that refers to none has its own weight
weight_of_leaf : (g : List (List ℕ)) (weights : List ℕ) (n a : ℕ) → successors g a ≡ [] → weight_below n g weights a ≡ get_or weights a 0
weight_of_leaf g weights zero a leaf = weight_below-zero g weights a
weight_of_leaf g weights (suc n) a leaf =
    let rest : sum_by (weight_below n g weights) (successors g a) ≡ 0 = ap (sum_by (weight_below n g weights)) leaf in
    omega (arith, weight_below-suc g weights n a, rest)

-- weights that are equal one step on are equal
weight_of_branch : (g : List (List ℕ)) (weights : List ℕ) (n m a : ℕ) → All (λ b. weight_below n g weights b ≡ weight_below m g weights b) (successors g a) → weight_below (suc n) g weights a ≡ weight_below (suc m) g weights a
weight_of_branch g weights n m a same =
    weight_below-suc g weights n a
    ∙ ap (λ x. get_or weights a 0 + x) (sum_by-same (weight_below n g weights) (weight_below m g weights) (successors g a) same)
    ∙ sym (weight_below-suc g weights m a)

-- over an order the weight of a node is its own and those of the nodes that it refers to
pub weight_in_order : (g : List (List ℕ)) (weights order : List ℕ) → IsTopological g order → (n k a : ℕ) → length order ≤ n → slice_get order k ≡ Some a → weight_below n g weights a ≡ get_or weights a 0 + sum_by (weight_below n g weights) (successors g a)
weight_in_order g weights order topological zero k a short at = absurd (omega (arith, slice_get_within order k a at))
weight_in_order g weights order topological (suc n) k a short at =
    weight_below-suc g weights n a
    ∙ ap (λ x. get_or weights a 0 + x) (sum_by-same (weight_below n g weights) (weight_below (suc n) g weights) (successors g a)
    (settled_below (successors g) order topological.after (λ n. weight_below n g weights)
    (λ n m a leaf. weight_of_leaf g weights n a leaf ∙ sym (weight_of_leaf g weights m a leaf))
    (weight_of_branch g weights) n (suc n) k a at (omega (arith, slice_get_within order k a at)) (omega (arith, slice_get_within order k a at))))

-- a sum may stop at the last number before or after
stops : (m own w rest : ℕ) → min (own + min w m + rest) m ≡ min (own + w + rest) m
stops m own w rest = omega arith

-- a sum over numbers that stopped at the last number stops as the sum does
pub stopped_sum : (m : ℕ) (f : ℕ → ℕ) (own : ℕ) (bs : List ℕ) → min (own + sum_by (λ b. min (f b) m) bs) m ≡ min (own + sum_by f bs) m
stopped_sum m f own [] = refl
stopped_sum m f own (b ∷ bs) =
    let rest : min ((own + min (f b) m) + sum_by (λ c. min (f c) m) bs) m ≡ min ((own + min (f b) m) + sum_by f bs) m = stopped_sum m f (own + min (f b) m) bs in
    let left : own + sum_by (λ c. min (f c) m) (b ∷ bs) ≡ (own + min (f b) m) + sum_by (λ c. min (f c) m) bs = omega (arith, sum_by-cons (λ c. min (f c) m) b bs) in
    let right : (own + f b) + sum_by f bs ≡ own + sum_by f (b ∷ bs) = omega (arith, sum_by-cons f b bs) in
    ap (λ x. min x m) left ∙ rest ∙ stops m own (f b) (sum_by f bs) ∙ ap (λ x. min x m) right
