-- What each turn of a search comes to.
use Rattle.std.proofs.Common.{◌≡◌, ◌≢◌, ℕ, ◌+◌, ◌<◌, ◌≤◌, List, [], ◌∷◌, ◌++◌, inl, inr, Some, length, take, get_or, set, slice_get, refl, sym, ap, ◌∙◌, subst, arith, All, Contains, length-set}
use Rattle.std.specs.List.{AllPairs}
use Rattle.std.proofs.lemmas.List.{take_all, get_or_default}
use Rattle.std.proofs.lemmas.List.Elements.{All-contains, All-push, All-more, All-nil, Contains-push_cases}
use Rattle.std.proofs.lemmas.Option.{slice_get_within, get_or_from_slice_get}
use Rattle.reference_graph.specs.declared.marks.Mark.TheVariants.{New, OnPath, Done}
use Rattle.reference_graph.specs.declared.search.Search.{Search}
use Rattle.reference_graph.specs.declared.edge.Edge.{Edge}
use Rattle.reference_graph.specs.Graph.{successors, AreNodes}
use Rattle.reference_graph.specs.Path.{IsPath, IsReached, last_node, nodes_on}
use Rattle.reference_graph.specs.Cycle.{IsBefore, IsFirstCycle}
use Rattle.reference_graph.specs.Order.{IsTopological, IsOrder}
use Rattle.reference_graph.specs.inner.Search.{HasMark, IsSearching, GoesOn}
use Rattle.list_base.proofs.Membership.{all_prefix, distinct_prefix, not_before}
use Rattle.reference_graph.proofs.PathLemmas.{last_node-push, end_on, nodes_on-push, IsPath-push, IsPath-prefix}
use Rattle.reference_graph.proofs.CycleLemmas.{none_before}
use Rattle.reference_graph.proofs.SearchLemmas.{IsExplored-push, IsExplored-prefix, IsExplored-more, all_members_more, once_push, IsTopological-push, marked_followed, marked_done}
use Rattle.reference_graph.proofs.MeasureLemmas.{unvisited-visited, unvisited-done, pending-push, pending-next}

-- the last node on the path is a node
pub here_within : (g : List (List ℕ)) (s : Search) → IsSearching g s → last_node s.start s.path < length g
here_within g s searching = All-contains (λ b. b < length g) (nodes_on s.start s.path) (last_node s.start s.path) searching.nodes (end_on s.start s.path)

-- a reference to a node on the path closes the first cycle
pub meets : (g : List (List ℕ)) (s : Search) (node : ℕ) → IsSearching g s → slice_get (successors g (last_node s.start s.path)) s.next ≡ Some node → node < length g → slice_get s.marks node ≡ Some OnPath → IsFirstCycle g s.start node
meets g s node searching at within is_on =
    let tip : Edge = record { index = s.next; node = node } in
    let returns : Contains (nodes_on s.start s.path) node =
    subst (HasMark s.done (nodes_on s.start s.path) node) (get_or_from_slice_get s.marks node OnPath New is_on) (searching.marked node within) in
    let is_path = IsPath-push g s.start s.path tip searching.is_path at in
    record {
      path = s.path ++ tip ∷ [];
      is_path = is_path;
      cycle = record { before = s.path; last = tip; whole = refl; returns = returns };
      ends = last_node-push s.start s.path tip;
      first = λ other other_path cycle before.
          none_before g s.done searching.topological s.path cycle.before [] s.start tip cycle.last
          (IsExplored-push g s.done s.start s.path tip searching.explored searching.before)
          is_path searching.simple searching.unfinished
          (subst (IsPath g s.start) cycle.whole other_path) cycle.returns
          (subst (λ path. IsBefore path (s.path ++ tip ∷ [])) cycle.whole before);
    }

-- a reference to a done node is passed over
pub passes : (g : List (List ℕ)) (s : Search) (node : ℕ) → IsSearching g s → slice_get (successors g (last_node s.start s.path)) s.next ≡ Some node → node < length g → slice_get s.marks node ≡ Some Done → GoesOn g s (record s { next = s.next + 1 })
passes g s node searching at within is_done =
    let references = successors g (last_node s.start s.path) in
    let done : Contains s.done node =
    subst (HasMark s.done (nodes_on s.start s.path) node) (get_or_from_slice_get s.marks node Done New is_done) (searching.marked node within) in
    let there : s.next < length references = slice_get_within references s.next node at in
    record {
      searching = record {
        fits = searching.fits;
        marked = searching.marked;
        topological = searching.topological;
        reached = searching.reached;
        is_path = searching.is_path;
        nodes = searching.nodes;
        simple = searching.simple;
        unfinished = searching.unfinished;
        explored = searching.explored;
        before = All-more (Contains s.done) references s.next node there searching.before
            (subst (Contains s.done) (sym (get_or_from_slice_get references s.next node node at)) done);
      };
      start = refl;
      nearer = omega (arith, pending-next g s.start s.path s.next there);
    }

-- the search after a new node went onto the path
abbrev pub followed : Search → ℕ → Search
followed s node = record s { path = s.path ++ (record { index = s.next; node = node }) ∷ []; next = 0; marks = set s.marks node OnPath }

-- a new node goes onto the path
pub follows : (g : List (List ℕ)) (s : Search) (node : ℕ) → IsSearching g s → slice_get (successors g (last_node s.start s.path)) s.next ≡ Some node → node < length g → slice_get s.marks node ≡ Some New → GoesOn g s (followed s node)
follows g s node searching at within is_new =
    let step : Edge = record { index = s.next; node = node } in
    let nodes = nodes_on s.start s.path in
    let grown : nodes ++ node ∷ [] ≡ nodes_on s.start (s.path ++ step ∷ []) = sym (nodes_on-push s.start s.path step) in
    let fresh : HasMark s.done nodes node New =
    subst (HasMark s.done nodes node) (get_or_from_slice_get s.marks node New New is_new) (searching.marked node within) in
    record {
      searching = record {
        fits = length-set s.marks node OnPath ∙ searching.fits;
        marked = subst (λ (ns : List ℕ). (c : ℕ) → c < length g → HasMark s.done ns c (get_or (set s.marks node OnPath) c New)) grown
            (marked_followed g s.marks s.done nodes node searching.fits searching.marked within);
        topological = searching.topological;
        reached = searching.reached;
        is_path = IsPath-push g s.start s.path step searching.is_path at;
        nodes = subst (AreNodes g) grown (All-push (λ b. b < length g) nodes node searching.nodes within);
        simple = subst (AllPairs ◌≢◌) grown (once_push nodes node searching.simple fresh.1);
        unfinished = subst (All (λ b. ¬ Contains s.done b)) grown (All-push (λ b. ¬ Contains s.done b) nodes node searching.unfinished fresh.0);
        explored = IsExplored-push g s.done s.start s.path step searching.explored searching.before;
        before = All-nil (Contains s.done);
      };
      start = refl;
      nearer = omega (arith, unvisited-visited g s.marks node within is_new, pending-push g s.start s.path step 0);
    }

-- the last node on the path is done after all that it refers to
here_done : (g : List (List ℕ)) (s : Search) → IsSearching g s → length (successors g (last_node s.start s.path)) ≤ s.next → IsTopological g (s.done ++ last_node s.start s.path ∷ [])
here_done g s searching all_seen =
    let here = last_node s.start s.path in
    IsTopological-push g s.done here searching.topological (here_within g s searching)
    (All-contains (λ b. ¬ Contains s.done b) (nodes_on s.start s.path) here searching.unfinished (end_on s.start s.path))
    (subst (All (Contains s.done)) (take_all s.next (successors g here) all_seen) searching.before)

-- the last node on the path is reached
here_reached : (g : List (List ℕ)) (s : Search) → IsSearching g s → All (IsReached g s.start) (s.done ++ last_node s.start s.path ∷ [])
here_reached g s searching = All-push (IsReached g s.start) s.done (last_node s.start s.path) searching.reached (record { path = s.path; is_path = searching.is_path; ends = refl })

-- the start is done last
pub ends : (g : List (List ℕ)) (s : Search) → IsSearching g s → length (successors g (last_node s.start s.path)) ≤ s.next → s.path ≡ [] → IsOrder g s.start (s.done ++ last_node s.start s.path ∷ [])
ends g s searching all_seen at_start = record {
  topological = here_done g s searching all_seen;
  before = s.done;
  last = ap (λ (path : List Edge). s.done ++ last_node s.start path ∷ []) at_start;
  reached = here_reached g s searching;
}

-- the search after the last node on the path is done
abbrev pub finished : Search → List Edge → Edge → Search
finished s front step = record s { path = front; next = step.index; marks = set s.marks step.node Done; done = s.done ++ step.node ∷ [] }

-- the search with this path
abbrev along : Search → List Edge → Search
along s path = record s { path = path }

-- nodes on the path that are not done are still so when a node that stood after them is
apart_done : (done nodes : List ℕ) (b : ℕ) → All (λ c. ¬ Contains done c) nodes → AllPairs ◌≢◌ (nodes ++ b ∷ []) → All (λ c. ¬ Contains (done ++ b ∷ []) c) nodes
apart_done done nodes b apart simple k d within member =
    elim (Contains-push_cases done b (get_or nodes k d) member) [
      | inl before ↦ apart k d within before
      | inr same ↦ not_before nodes b [] simple (k, within, get_or_default nodes k b d within ∙ sym same)
    ]

-- the last node on the path is done, at the path's last step
finishes_along : (g : List (List ℕ)) (s : Search) (front : List Edge) (step : Edge) → IsSearching g (along s (front ++ step ∷ [])) → length (successors g step.node) ≤ s.next → GoesOn g (along s (front ++ step ∷ [])) (finished s front step)
finishes_along g s front step searching all_seen =
    let whole = front ++ step ∷ [] in
    let nodes = nodes_on s.start front in
    let grown : nodes_on s.start whole ≡ nodes ++ step.node ∷ [] = nodes_on-push s.start front step in
    let at_end : last_node s.start whole ≡ step.node = last_node-push s.start front step in
    let seen : length (successors g (last_node s.start whole)) ≤ s.next = subst (λ b. length (successors g b) ≤ s.next) (sym at_end) all_seen in
    let within : step.node < length g = subst (λ b. b < length g) at_end (here_within g (along s whole) searching) in
    let simple : AllPairs ◌≢◌ (nodes ++ step.node ∷ []) = subst (AllPairs ◌≢◌) grown searching.simple in
    let apart : All (λ b. ¬ Contains s.done b) nodes = all_prefix (λ b. ¬ Contains s.done b) nodes (step.node ∷ []) (subst (All (λ b. ¬ Contains s.done b)) grown searching.unfinished) in
    let explored = IsExplored-prefix g s.done s.start front step searching.explored in
    record {
      searching = record {
        fits = length-set s.marks step.node Done ∙ searching.fits;
        marked = marked_done g s.marks s.done nodes step.node searching.fits
            (subst (λ (ns : List ℕ). (c : ℕ) → c < length g → HasMark s.done ns c (get_or s.marks c New)) grown searching.marked) within;
        topological = subst (λ b. IsTopological g (s.done ++ b ∷ [])) at_end (here_done g (along s whole) searching seen);
        reached = subst (λ b. All (IsReached g s.start) (s.done ++ b ∷ [])) at_end (here_reached g (along s whole) searching);
        is_path = IsPath-prefix g s.start front step searching.is_path;
        nodes = all_prefix (λ b. b < length g) nodes (step.node ∷ []) (subst (AreNodes g) grown searching.nodes);
        simple = distinct_prefix nodes (step.node ∷ []) simple;
        unfinished = apart_done s.done nodes step.node apart simple;
        explored = IsExplored-more g s.done step.node s.start front explored.0;
        before = all_members_more s.done step.node (take step.index (successors g (last_node s.start front))) explored.1;
      };
      start = refl;
      nearer = omega (arith, unvisited-done g s.marks step.node, pending-push g s.start front step s.next);
    }

-- the last node on the path is done, and the search goes back to the one before
pub finishes : (g : List (List ℕ)) (s : Search) (front : List Edge) (step : Edge) → IsSearching g s → length (successors g (last_node s.start s.path)) ≤ s.next → s.path ≡ front ++ step ∷ [] → GoesOn g s (finished s front step)
finishes g s front step searching all_seen is =
    let same : s ≡ along s (front ++ step ∷ []) = ap (along s) is in
    let at_end : last_node s.start s.path ≡ step.node = ap (last_node s.start) is ∙ last_node-push s.start front step in
    subst (λ (t : Search). GoesOn g t (finished s front step)) (sym same)
    (finishes_along g s front step (subst (IsSearching g) same searching) (subst (λ b. length (successors g b) ≤ s.next) at_end all_seen))
