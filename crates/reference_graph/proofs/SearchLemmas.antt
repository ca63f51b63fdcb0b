-- What a turn keeps of a search.
use Rattle.std.proofs.Common.{◌≡◌, ◌≢◌, ℕ, ◌<◌, List, [], ◌∷◌, ◌++◌, inl, inr, Some, length, take, get_or, set, slice_get, sym, ap, ◌∙◌, subst, arith, All, Contains, length-append}
use Rattle.std.specs.List.{AllPairs}
use Rattle.std.proofs.lemmas.Bool.{cases_eq, cases_lt}
use Rattle.std.proofs.lemmas.List.{get_or-set_same, get_or-set_other, take_at, take-append-le, get_or_push, get_or_append_left, get_or_default}
use Rattle.std.proofs.lemmas.List.Elements.{All-push, All-weaker, Contains-push, Contains-push_cases, Contains-append_left}
use Rattle.std.proofs.lemmas.List.Quantifiers.{all_pairs_push}
use Rattle.std.proofs.lemmas.Option.{slice_get_within, get_or_from_slice_get, slice_get-get_or}
use Rattle.reference_graph.specs.declared.marks.Mark.{Mark}
use Rattle.reference_graph.specs.declared.marks.Mark.TheVariants.{New, OnPath, Done}
use Rattle.reference_graph.specs.declared.edge.Edge.{Edge}
use Rattle.reference_graph.specs.Graph.{successors}
use Rattle.reference_graph.specs.Path.{last_node}
use Rattle.reference_graph.specs.Order.{IsTopological}
use Rattle.reference_graph.specs.inner.Search.{HasMark, IsExplored}

-- a step from the end of an explored path, at a index before which all is done
pub IsExplored-push : (g : List (List ℕ)) (done : List ℕ) (a : ℕ) (path : List Edge) (s : Edge) → IsExplored g done a path → All (Contains done) (take s.index (successors g (last_node a path))) → IsExplored g done a (path ++ s ∷ [])
IsExplored-push g done a [] s explored before = (before, tt)
IsExplored-push g done a (t ∷ path) s explored before = (explored.0, IsExplored-push g done t.node path s explored.1 before)

-- an explored path without its last step, and what is done before that step
pub IsExplored-prefix : (g : List (List ℕ)) (done : List ℕ) (a : ℕ) (path : List Edge) (s : Edge) → IsExplored g done a (path ++ s ∷ []) → IsExplored g done a path × All (Contains done) (take s.index (successors g (last_node a path)))
IsExplored-prefix g done a [] s explored = (tt, explored.0)
IsExplored-prefix g done a (t ∷ path) s explored = let rest = IsExplored-prefix g done t.node path s explored.1 in ((explored.0, rest.0), rest.1)

-- members stay when one more follows
pub all_members_more : (done : List ℕ) (x : ℕ) (xs : List ℕ) → All (Contains done) xs → All (Contains (done ++ x ∷ [])) xs
all_members_more done x xs all = All-weaker (Contains done) (Contains (done ++ x ∷ [])) (λ y member. Contains-append_left done (x ∷ []) y member) xs all

-- an explored path stays so when one more node is done
pub IsExplored-more : (g : List (List ℕ)) (done : List ℕ) (x a : ℕ) (path : List Edge) → IsExplored g done a path → IsExplored g (done ++ x ∷ []) a path
IsExplored-more g done x a [] explored = tt
IsExplored-more g done x a (s ∷ path) explored = (all_members_more done x (take s.index (successors g a)) explored.0, IsExplored-more g done x s.node path explored.1)

-- an item that stands nowhere in a list goes to its end
pub once_push : (xs : List ℕ) (x : ℕ) → AllPairs ◌≢◌ xs → ¬ Contains xs x → AllPairs ◌≢◌ (xs ++ x ∷ [])
once_push xs x once absent = all_pairs_push ◌≢◌ xs x once (λ k d within same. absent (k, within, get_or_default xs k x d within ∙ same))

-- a node joins an order after all that it refers to
pub IsTopological-push : (g : List (List ℕ)) (order : List ℕ) (b : ℕ) → IsTopological g order → b < length g → ¬ Contains order b → All (Contains order) (successors g b) → IsTopological g (order ++ b ∷ [])
IsTopological-push g order b topological within absent after = record {
  nodes = All-push (λ c. c < length g) order b topological.nodes within;
  once = once_push order b topological.once absent;
  after = later;
}
  where
    later : (k c : ℕ) → slice_get (order ++ b ∷ []) k ≡ Some c → All (Contains (take k (order ++ b ∷ []))) (successors g c)
    later k c at = elim (cases_lt k (length order)) [
      | inl less ↦ subst (λ (xs : List ℕ). All (Contains xs) (successors g c)) (sym (take-append-le k order (b ∷ []) (omega arith)))
          (topological.after k c (slice_get-get_or order k c less ∙ ap Some (sym (get_or_append_left order (b ∷ []) c k less) ∙ get_or_from_slice_get (order ++ b ∷ []) k c c at)))
      | inr more ↦ let is_end : length order ≡ k = omega (arith, slice_get_within (order ++ b ∷ []) k c at, length-append order (b ∷ [])) in
          let same : b ≡ c = sym (get_or_push order b c k is_end) ∙ get_or_from_slice_get (order ++ b ∷ []) k c c at in
          subst (λ (xs : List ℕ). All (Contains xs) (successors g c)) (sym (take_at order (b ∷ []) k is_end))
          (subst (λ d. All (Contains order) (successors g d)) same after)
    ]

-- the mark of a node that is met, and the marks of others
pub marks_met : (done nodes : List ℕ) (b : ℕ) (m : Mark) → (c : ℕ) → c ≢ b → HasMark done nodes c m → HasMark done (nodes ++ b ∷ []) c m
marks_met done nodes b New c other has = (has.0, λ member. elim (Contains-push_cases nodes b c member) [ inl before ↦ has.1 before | inr same ↦ other (sym same) ])
marks_met done nodes b OnPath c other has = Contains-append_left nodes (b ∷ []) c has
marks_met done nodes b Done c other has = has

-- the marks of others when the last node of the path is done
pub marks_done : (done nodes : List ℕ) (b : ℕ) (m : Mark) → (c : ℕ) → c ≢ b → HasMark done (nodes ++ b ∷ []) c m → HasMark (done ++ b ∷ []) nodes c m
marks_done done nodes b New c other has = (
  λ member. elim (Contains-push_cases done b c member) [ inl before ↦ has.0 before | inr same ↦ other (sym same) ],
  λ member. has.1 (Contains-append_left nodes (b ∷ []) c member),
)
marks_done done nodes b OnPath c other has = elim (Contains-push_cases nodes b c has) [ inl before ↦ before | inr same ↦ absurd (other (sym same)) ]
marks_done done nodes b Done c other has = Contains-append_left done (b ∷ []) c has

-- the marks when a new node goes onto the path
pub marked_followed : (g : List (List ℕ)) (marks : List Mark) (done nodes : List ℕ) (b : ℕ) → length marks ≡ length g → ((c : ℕ) → c < length g → HasMark done nodes c (get_or marks c New)) → b < length g → (c : ℕ) → c < length g → HasMark done (nodes ++ b ∷ []) c (get_or (set marks b OnPath) c New)
marked_followed g marks done nodes b fits marked b_within c within =
    elim (cases_eq c b) [
      | inl same ↦ subst (λ x. HasMark done (nodes ++ b ∷ []) x (get_or (set marks b OnPath) x New)) (sym same)
          (subst (HasMark done (nodes ++ b ∷ []) b) (sym (get_or-set_same marks b OnPath New (omega arith))) (Contains-push nodes b))
      | inr other ↦ subst (HasMark done (nodes ++ b ∷ []) c) (sym (get_or-set_other marks b c OnPath New other))
          (marks_met done nodes b (get_or marks c New) c other (marked c within))
    ]

-- the marks when the last node of the path is done
pub marked_done : (g : List (List ℕ)) (marks : List Mark) (done nodes : List ℕ) (b : ℕ) → length marks ≡ length g → ((c : ℕ) → c < length g → HasMark done (nodes ++ b ∷ []) c (get_or marks c New)) → b < length g → (c : ℕ) → c < length g → HasMark (done ++ b ∷ []) nodes c (get_or (set marks b Done) c New)
marked_done g marks done nodes b fits marked b_within c within =
    elim (cases_eq c b) [
      | inl same ↦ subst (λ x. HasMark (done ++ b ∷ []) nodes x (get_or (set marks b Done) x New)) (sym same)
          (subst (HasMark (done ++ b ∷ []) nodes b) (sym (get_or-set_same marks b Done New (omega arith))) (Contains-push done b))
      | inr other ↦ subst (HasMark (done ++ b ∷ []) nodes c) (sym (get_or-set_other marks b c Done New other))
          (marks_done done nodes b (get_or marks c New) c other (marked c within))
    ]
