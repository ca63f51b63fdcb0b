-- A walk has a result: the search takes one step after another, and ends.
use Rattle.std.proofs.Common.{◌≡◌, ℕ, zero, suc, ◌+◌, ◌<◌, ◌≤◌, List, [], ◌∷◌, ◌++◌, ◌⊎◌, inl, inr, Some, length, get_or, set, replicate, slice_get, refl, sym, ap, ◌∙◌, subst, arith, All, Contains, length-set}
use Rattle.std.proofs.lemmas.Bool.{cases_eq, cases_lt}
use Rattle.std.proofs.lemmas.List.{get_or-replicate, get_or-set_same, get_or-set_other, length-replicate}
use Rattle.std.proofs.lemmas.List.Elements.{All-nil, All-push}
use Rattle.std.proofs.lemmas.Option.{slice_get-get_or}
use Rattle.list_base.proofs.Members.{nowhere, only, here_same}
use Rattle.reference_graph.specs.declared.edge.Edge.{Edge}
use Rattle.reference_graph.specs.declared.marks.Mark.{Mark}
use Rattle.reference_graph.specs.declared.marks.Mark.TheVariants.{New, OnPath, Done}
use Rattle.reference_graph.specs.declared.search.Search.{Search}
use Rattle.reference_graph.specs.declared.walk_result.WalkResult.{WalkResult}
use Rattle.reference_graph.specs.declared.walk_result.WalkResult.TheVariants.{Order, Cycle}
use Rattle.reference_graph.specs.Graph.{successors, AreNodes}
use Rattle.reference_graph.specs.Path.{last_node}
use Rattle.reference_graph.specs.Cycle.{IsAcyclic}
use Rattle.reference_graph.specs.Order.{IsOrder, IsTopological}
use Rattle.reference_graph.specs.WalkResult.{IsWalkResult}
use Rattle.reference_graph.specs.inner.Search.{HasMark, IsSearching, GoesOn, remaining}
use Rattle.reference_graph.proofs.ProgressLemmas.{here_within, meets, passes, follows, followed, ends, finishes, finished}

-- a path is empty, or has a last edge
last_cases : (path : List Edge) → (path ≡ []) ⊎ ((before : List Edge) × (last : Edge) × (path ≡ before ++ last ∷ []))
last_cases [] = inl refl
last_cases (s ∷ path) = elim (last_cases path) [
  | inl none ↦ inr ([], s, ap (λ (rest : List Edge). s ∷ rest) none)
  | inr some ↦ inr (s ∷ some.0, some.1, ap (λ (rest : List Edge). s ∷ rest) some.2)
]

-- a walk from the node has a result
abbrev HasResult : List (List ℕ) → ℕ → Type 0
HasResult g start = (result : WalkResult) × IsWalkResult g start result

-- the search has its result, or goes on
abbrev HasStep : List (List ℕ) → Search → Type 0
HasStep g s = HasResult g s.start ⊎ ((new : Search) × GoesOn g s new)

-- a reference that is left is followed, passed over, or closes a cycle
at_reference : (g : List (List ℕ)) (s : Search) (node : ℕ) → IsSearching g s → slice_get (successors g (last_node s.start s.path)) s.next ≡ Some node → node < length g → (m : Mark) → slice_get s.marks node ≡ Some m → HasStep g s
at_reference g s node searching at within New is = inr (followed s node, follows g s node searching at within is)
at_reference g s node searching at within OnPath is = inl (Cycle node, meets g s node searching at within is)
at_reference g s node searching at within Done is = inr (record s { next = s.next + 1 }, passes g s node searching at within is)

-- a node without references that are left is finished
at_end : (g : List (List ℕ)) (s : Search) → IsSearching g s → length (successors g (last_node s.start s.path)) ≤ s.next → HasStep g s
at_end g s searching seen = elim (last_cases s.path) [
  | inl none ↦ inl (Order (s.done ++ last_node s.start s.path ∷ []), ends g s searching seen none)
  | inr some ↦ inr (finished s some.0 some.1, finishes g s some.0 some.1 searching seen some.2)
]

-- each search has a step
next_step : (g : List (List ℕ)) (s : Search) → All (AreNodes g) g → IsSearching g s → HasStep g s
next_step g s nodes searching =
    let references = successors g (last_node s.start s.path) in
    elim (cases_lt s.next (length references)) [
      | inl within ↦
          let node = get_or references s.next 0 in
          let is_node : node < length g = nodes (last_node s.start s.path) [] (here_within g s searching) s.next 0 within in
          at_reference g s node searching (slice_get-get_or references s.next 0 within) is_node
          (get_or s.marks node New) (slice_get-get_or s.marks node New (omega (arith, searching.fits)))
      | inr seen ↦ at_end g s searching seen
    ]

-- the steps come to a result
result_of : (g : List (List ℕ)) (n : ℕ) (s : Search) → All (AreNodes g) g → IsSearching g s → remaining g s < n → HasResult g s.start
result_of g zero s nodes searching few = absurd (omega arith)
result_of g (suc n) s nodes searching few = elim (next_step g s nodes searching) [
  | inl result ↦ result
  | inr step ↦ subst (HasResult g) step.1.start (result_of g n step.0 nodes step.1.searching (omega (arith, step.1.nearer)))
]

-- the search that begins at the start
abbrev first_search : List (List ℕ) → ℕ → Search
first_search g start = record { start = start; path = []; next = 0; marks = set (replicate (length g) New) start OnPath; done = [] }

-- its marks are right
first_marks : (g : List (List ℕ)) (start b : ℕ) → start < length g → b < length g → HasMark [] (start ∷ []) b (get_or (set (replicate (length g) New) start OnPath) b New)
first_marks g start b within is_node = elim (cases_eq start b) [
  | inl same ↦ subst (HasMark [] (start ∷ []) b) (sym (ap (λ c. get_or (set (replicate (length g) New) c OnPath) b New) same ∙ get_or-set_same (replicate (length g) New) b OnPath New (omega (arith, length-replicate (length g) New))))
      (here_same start [] b same)
  | inr other ↦ subst (HasMark [] (start ∷ []) b) (sym (get_or-set_other (replicate (length g) New) start b OnPath New (λ same. other (sym same)) ∙ get_or-replicate (length g) b New New is_node))
      ((λ member. nowhere b member), (λ member. other (only start b member)))
]

-- no node is in an order
no_order : (g : List (List ℕ)) → IsTopological g []
no_order g = record {
  nodes = All-nil (λ b. b < length g);
  once = λ i j d less within. absurd (omega (arith, within));
  after = λ k b at. cc;
}

-- it begins
first_searching : (g : List (List ℕ)) (start : ℕ) → start < length g → IsSearching g (first_search g start)
first_searching g start within = record {
  fits = length-set (replicate (length g) New) start OnPath ∙ length-replicate (length g) New;
  marked = λ b is_node. first_marks g start b within is_node;
  topological = no_order g;
  reached = λ k d none. absurd (omega (arith, none));
  is_path = tt;
  nodes = All-push (λ b. b < length g) [] start (All-nil (λ b. b < length g)) within;
  simple = λ i j d less last. absurd (omega (arith, less, last));
  unfinished = All-push (λ b. ¬ Contains [] b) [] start (All-nil (λ b. ¬ Contains [] b)) (λ member. nowhere start member);
  explored = tt;
  before = All-nil (Contains []);
}

-- a walk from each node has a result
pub has_result : (g : List (List ℕ)) (start : ℕ) → All (AreNodes g) g → start < length g → (result : WalkResult) × IsWalkResult g start result
has_result g start nodes within = result_of g (suc (remaining g (first_search g start))) (first_search g start) nodes (first_searching g start within) (omega arith)

-- the order, where no path is a cycle
order_of : (g : List (List ℕ)) (start : ℕ) (result : WalkResult) → IsAcyclic g start → IsWalkResult g start result → (order : List ℕ) × IsOrder g start order
order_of g start (Order order) acyclic is = (order, is)
order_of g start (Cycle node) acyclic is = absurd (acyclic is.path is.is_path is.cycle)

-- where no path is a cycle, there is an order
pub has_order : (g : List (List ℕ)) (start : ℕ) → All (AreNodes g) g → start < length g → IsAcyclic g start → (order : List ℕ) × IsOrder g start order
has_order g start nodes within acyclic = let found = has_result g start nodes within in order_of g start found.0 acyclic found.1
