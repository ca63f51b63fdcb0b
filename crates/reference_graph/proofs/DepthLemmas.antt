-- How long the longest path from a node is, by those of the nodes that it refers to.
use Rattle.std.proofs.Common.{◌≡◌, ℕ, zero, suc, ◌+◌, ◌≤◌, max, List, [], ◌∷◌, ◌++◌, Some, length, map, slice_get, refl, sym, ap, ◌∙◌, arith, All}
use Rattle.std.specs.List.{flat_map}
use Rattle.std.proofs.lemmas.List.{map-append}
use Rattle.std.proofs.lemmas.List.Elements.{All-head, All-tail}
use Rattle.std.proofs.lemmas.Option.{slice_get_within}
use Rattle.reference_graph.specs.Graph.{successors}
use Rattle.reference_graph.specs.Order.{IsTopological}
use Rattle.reference_graph.specs.PathCounts.{node_paths, greatest, depth_within}
use Rattle.list_base.proofs.Settled.{settled_below}

-- the greatest of two lists
pub greatest-append : (xs ys : List ℕ) → greatest (xs ++ ys) ≡ max (greatest xs) (greatest ys)
greatest-append [] ys = omega arith
greatest-append (x ∷ xs) ys = omega (arith, greatest-append xs ys)

-- numbers that are all small have a small greatest
pub greatest-le : (m : ℕ) (xs : List ℕ) → All (λ x. x ≤ m) xs → greatest xs ≤ m
greatest-le m [] small = omega arith
greatest-le m (x ∷ xs) small = omega (arith, All-head (λ y. y ≤ m) x xs small, greatest-le m xs (All-tail (λ y. y ≤ m) x xs small))

-- the greatest of numbers that are equal
pub greatest-same : (f h : ℕ → ℕ) (bs : List ℕ) → All (λ b. f b ≡ h b) bs → greatest (map f bs) ≡ greatest (map h bs)
greatest-same f h [] same = refl
greatest-same f h (b ∷ bs) same =
    omega (arith, All-head (λ c. f c ≡ h c) b bs same, greatest-same f h bs (All-tail (λ c. f c ≡ h c) b bs same))

-- paths that go on to a node are a step longer
longer : (b : ℕ) (p : List ℕ) (ps : List (List ℕ)) → greatest (map length (map (λ path. b ∷ path) (p ∷ ps))) ≡ greatest (map length (p ∷ ps)) + 1
longer b p [] = omega arith
longer b p (q ∷ ps) = omega (arith, longer b q ps)

-- those from a node that go on to another
onward : (g : List (List ℕ)) (n b : ℕ) → greatest (map length (map (λ path. b ∷ path) (node_paths g n b))) ≡ depth_within n g b + 1
unfolding depth_within node_paths
onward g zero b = longer b [] []
onward g (suc n) b = longer b [] (flat_map (λ c. map (λ path. c ∷ path) (node_paths g n c)) (successors g b))

-- the paths by their first nodes
branches : (g : List (List ℕ)) (n : ℕ) (bs : List ℕ) → greatest (map length (flat_map (λ b. map (λ path. b ∷ path) (node_paths g n b)) bs)) ≡ greatest (map (λ b. depth_within n g b + 1) bs)
branches g n [] = refl
branches g n (b ∷ bs) =
    let here = map (λ path. b ∷ path) (node_paths g n b) in
    let there = flat_map (λ c. map (λ path. c ∷ path) (node_paths g n c)) bs in
    ap greatest (map-append length here there) ∙ greatest-append (map length here) (map length there)
    ∙ ap (λ x. max x (greatest (map length there))) (onward g n b)
    ∙ ap (λ x. max (depth_within n g b + 1) x) (branches g n bs)

-- without a step there is no depth
pub depth_within-zero : (g : List (List ℕ)) (a : ℕ) → depth_within 0 g a ≡ 0
unfolding depth_within node_paths
depth_within-zero g a = refl

-- one step more than from the nodes that it refers to
pub depth_within-suc : (g : List (List ℕ)) (n a : ℕ) → depth_within (suc n) g a ≡ greatest (map (λ b. depth_within n g b + 1) (successors g a))
unfolding depth_within node_paths
depth_within-suc g n a = omega (arith, branches g n (successors g a))

-- a node that refers to none has no depth
depth_of_leaf : (g : List (List ℕ)) (n a : ℕ) → successors g a ≡ [] → depth_within n g a ≡ 0
depth_of_leaf g zero a leaf = depth_within-zero g a
depth_of_leaf g (suc n) a leaf = depth_within-suc g n a ∙ ap (λ (bs : List ℕ). greatest (map (λ b. depth_within n g b + 1) bs)) leaf

-- depths that are equal one step on
stepped : (g : List (List ℕ)) (n m : ℕ) (bs : List ℕ) → All (λ b. depth_within n g b ≡ depth_within m g b) bs → greatest (map (λ b. depth_within n g b + 1) bs) ≡ greatest (map (λ b. depth_within m g b + 1) bs)
stepped g n m bs same =
    greatest-same (λ b. depth_within n g b + 1) (λ b. depth_within m g b + 1) bs (λ k d within. ap (λ x. x + 1) (same k d within))

-- over an order the depth of a node is a step more than those of the nodes that it refers to
pub depth_in_order : (g : List (List ℕ)) (order : List ℕ) → IsTopological g order → (n k a : ℕ) → length order ≤ n → slice_get order k ≡ Some a → depth_within n g a ≡ greatest (map (λ b. depth_within n g b + 1) (successors g a))
depth_in_order g order topological zero k a short at = absurd (omega (arith, slice_get_within order k a at))
depth_in_order g order topological (suc n) k a short at =
    depth_within-suc g n a
    ∙ stepped g n (suc n) (successors g a)
    (settled_below (successors g) order topological.after (λ n. depth_within n g)
    (λ n m a leaf. depth_of_leaf g n a leaf ∙ sym (depth_of_leaf g m a leaf))
    (λ n m a same. depth_within-suc g n a ∙ stepped g n m (successors g a) same ∙ sym (depth_within-suc g m a))
    n (suc n) k a at (omega (arith, slice_get_within order k a at)) (omega (arith, slice_get_within order k a at)))
