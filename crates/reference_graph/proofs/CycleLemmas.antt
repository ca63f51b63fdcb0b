-- A path over which all earlier references are done comes first.
use Rattle.std.proofs.Common.{◌≡◌, ◌≢◌, ℕ, ◌<◌, List, [], ◌∷◌, ◌++◌, inl, inr, Some, take, slice_get, ap, ◌∙◌, subst, append_assoc, map, All, Contains}
use Rattle.std.specs.List.{AllPairs}
use Rattle.std.proofs.lemmas.List.Elements.{All-contains, Contains-append_cases}
use Rattle.reference_graph.specs.declared.edge.Edge.{Edge}
use Rattle.reference_graph.specs.Graph.{successors}
use Rattle.reference_graph.specs.Path.{IsPath, nodes_on}
use Rattle.reference_graph.specs.Cycle.{IsBefore}
use Rattle.reference_graph.specs.Order.{IsTopological}
use Rattle.reference_graph.specs.inner.Search.{IsExplored}
use Rattle.list_base.proofs.Membership.{member_at, index_of, early_member, not_before, all_prefix}
use Rattle.reference_graph.proofs.PathLemmas.{last_node-push}
use Rattle.reference_graph.proofs.OrderLemmas.{ends_earlier, not_closed}

-- one node passes from the right of a join to its left
pub moved : (seen : List ℕ) (a : ℕ) (rest : List ℕ) → (seen ++ a ∷ []) ++ rest ≡ seen ++ (a ∷ rest)
moved seen a rest = append_assoc seen (a ∷ []) rest

-- a path that goes on from a done node is not closed, whatever led there
done_is_open : (g : List (List ℕ)) (done : List ℕ) → IsTopological g done → (seen : List ℕ) → All (λ b. ¬ Contains done b) seen → (front : List Edge) (last : Edge) (c : ℕ) → Contains done c → IsPath g c (front ++ last ∷ []) → Contains (seen ++ nodes_on c front) last.node → ⊥
done_is_open g done topological seen apart front last c is_done is_path again =
    let at = index_of done c is_done in
    let end = ends_earlier g done topological (front ++ last ∷ []) c at.0 at.1 is_path in
    elim (Contains-append_cases seen (nodes_on c front) last.node again) [
      | inl before ↦ All-contains (λ b. ¬ Contains done b) seen last.node apart before
          (member_at done end.0 last.node (end.1 ∙ ap Some (last_node-push c front last)))
      | inr after ↦ not_closed g done topological front last c at.0 at.1 is_path after
    ]

-- a step to a reference before a index that is explored leads to a done node
step_is_done : (g : List (List ℕ)) (done : List ℕ) (a limit : ℕ) (s : Edge) → All (Contains done) (take limit (successors g a)) → slice_get (successors g a) s.index ≡ Some s.node → s.index < limit → Contains done s.node
step_is_done g done a limit s explored at early =
    All-contains (Contains done) (take limit (successors g a)) s.node explored (early_member (successors g a) s.index limit s.node at early)

-- steps from one node at one index lead to one node
same_node : (g : List (List ℕ)) (a : ℕ) (s t : Edge) → slice_get (successors g a) s.index ≡ Some s.node → slice_get (successors g a) t.index ≡ Some t.node → s.index ≡ t.index → s.node ≡ t.node
same_node g a s t at_s at_t same = let e : slice_get (successors g a) s.index ≡ slice_get (successors g a) t.index = ap (slice_get (successors g a)) same in cc

-- no closed path is before one that is explored and simple but for its last step
pub none_before : (g : List (List ℕ)) (done : List ℕ) → IsTopological g done → (path front : List Edge) (seen : List ℕ) (a : ℕ) (tip last : Edge) → IsExplored g done a (path ++ tip ∷ []) → IsPath g a (path ++ tip ∷ []) → AllPairs ◌≢◌ (seen ++ nodes_on a path) → All (λ b. ¬ Contains done b) (seen ++ nodes_on a path) → IsPath g a (front ++ last ∷ []) → Contains (seen ++ nodes_on a front) last.node → ¬ IsBefore (front ++ last ∷ []) (path ++ tip ∷ [])
none_before g done topological [] [] seen a tip last explored is_path simple apart other again before =
    elim before [
      | inl early ↦ All-contains (λ b. ¬ Contains done b) (seen ++ a ∷ []) last.node apart again (step_is_done g done a tip.index last explored.0 other.0 early)
      | inr both ↦ both.1
    ]
none_before g done topological [] (s ∷ front) seen a tip last explored is_path simple apart other again before =
    elim before [
      | inl early ↦ done_is_open g done topological (seen ++ a ∷ []) apart front last s.node (step_is_done g done a tip.index s explored.0 other.0 early) other.1
          (rw (moved seen a (nodes_on s.node front)) again)
      | inr both ↦ both.1
    ]
none_before g done topological (t ∷ path) [] seen a tip last explored is_path simple apart other again before =
    elim before [
      | inl early ↦ All-contains (λ b. ¬ Contains done b) (seen ++ a ∷ []) last.node
          (all_prefix (λ b. ¬ Contains done b) (seen ++ a ∷ []) (nodes_on t.node path) (rw (moved seen a (nodes_on t.node path)) apart))
          again (step_is_done g done a t.index last explored.0 other.0 early)
      | inr both ↦ not_before (seen ++ a ∷ []) t.node (map (λ (r : Edge). r.node) path) (rw (moved seen a (nodes_on t.node path)) simple)
          (subst (Contains (seen ++ a ∷ [])) (same_node g a last t other.0 is_path.0 both.0) again)
    ]
none_before g done topological (t ∷ path) (s ∷ front) seen a tip last explored is_path simple apart other again before =
    elim before [
      | inl early ↦ done_is_open g done topological (seen ++ a ∷ [])
          (all_prefix (λ b. ¬ Contains done b) (seen ++ a ∷ []) (nodes_on t.node path) (rw (moved seen a (nodes_on t.node path)) apart))
          front last s.node (step_is_done g done a t.index s explored.0 other.0 early) other.1
          (rw (moved seen a (nodes_on s.node front)) again)
      | inr both ↦ let same = same_node g a s t other.0 is_path.0 both.0 in
          none_before g done topological path front (seen ++ a ∷ []) t.node tip last explored.1 is_path.1
          (rw (moved seen a (nodes_on t.node path)) simple)
          (rw (moved seen a (nodes_on t.node path)) apart)
          (subst (λ b. IsPath g b (front ++ last ∷ [])) same other.1)
          (subst (λ b. Contains ((seen ++ a ∷ []) ++ nodes_on b front) last.node) same (rw (moved seen a (nodes_on s.node front)) again))
          both.1
    ]
