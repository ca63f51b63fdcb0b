-- Each turn, by what it meets.
use Rattle.std.proofs.Common.{◌≡◌, ℕ, ◌<◌, ◌≤◌, List, [], ◌∷◌, ◌++◌, Some, Ok, Err, Result, IfOk, OnOk, length, get_or, set, slice_get, refl, sym, ap, ◌∙◌, subst, arith}
use Rattle.std.proofs.lemmas.Option.{slice_get-get_or}
use Rattle.list_base.specs.declared.memory.NoMemory.{NoMemory}
use Rattle.reference_graph.specs.declared.marks.Mark.{Mark}
use Rattle.reference_graph.specs.declared.marks.Mark.TheVariants.{Done}
use Rattle.reference_graph.specs.declared.search.Search.{Search}
use Rattle.reference_graph.specs.declared.search.Progress.{Progress}
use Rattle.reference_graph.specs.declared.search.Progress.TheVariants.{Continues}
use Rattle.reference_graph.specs.declared.edge.Edge.{Edge}
use Rattle.reference_graph.specs.Graph.{successors}
use Rattle.reference_graph.specs.Path.{last_node}
use Rattle.reference_graph.specs.Order.{IsOrder}
use Rattle.reference_graph.specs.inner.Search.{GoesOn, IsProgress}
use Rattle.reference_graph.proofs.PathLemmas.{last_node-push}
use Rattle.reference_graph.proofs.ProgressLemmas.{here_within, meets, passes, follows, ends, finishes, finished}
use Rattle.reference_graph.proofs.search.Search.advance.Goals as goal

-- the next reference stands at its index
next_at : (g : List (List ℕ)) (s : Search) (here : ℕ) (references : List ℕ) → here ≡ last_node s.start s.path → references ≡ successors g here → s.next < length references → slice_get (successors g (last_node s.start s.path)) s.next ≡ Some (get_or references s.next 0)
next_at g s here references is_here are within =
    ap (λ (xs : List ℕ). slice_get xs s.next) (ap (successors g) (sym is_here) ∙ sym are) ∙ slice_get-get_or references s.next 0 within

-- where the new node was taken, the search goes on
goes_on : (g : List (List ℕ)) (s new next : Search) (result : Result Progress NoMemory) → IfOk result (λ progress. progress ≡ Continues) → OnOk result (new ≡ next) → GoesOn g s next → IfOk result (IsProgress g s new)
goes_on g s new next (Ok progress) on is goes = subst (IsProgress g s new) (sym on) (subst (GoesOn g s) (sym is) goes)
goes_on g s new next (Err refusal) on is goes = tt

-- all references were seen
all_seen : (g : List (List ℕ)) (s : Search) (here : ℕ) (references : List ℕ) → here ≡ last_node s.start s.path → references ≡ successors g here → length references ≤ s.next → length (successors g (last_node s.start s.path)) ≤ s.next
all_seen g s here references is_here are past = subst (λ (xs : List ℕ). length xs ≤ s.next) (are ∙ ap (successors g) is_here) past

-- the search goes back with these marks and this node done
goes_back : (g : List (List ℕ)) (s : Search) (front : List Edge) (step : Edge) (here : ℕ) (marks : List Mark) (done : List ℕ) → here ≡ last_node s.start s.path → s.path ≡ front ++ step ∷ [] → marks ≡ set s.marks here Done → done ≡ s.done ++ here ∷ [] → GoesOn g s (finished s front step) → GoesOn g s (record s { path = front; next = step.index; marks = marks; done = done })
goes_back g s front step here marks done is_here is are_marks are_done goes =
    let same : step.node ≡ here = sym (is_here ∙ ap (last_node s.start) is ∙ last_node-push s.start front step) in
    let m : set s.marks step.node Done ≡ marks = ap (λ b. set s.marks b Done) same ∙ sym are_marks in
    let d : s.done ++ step.node ∷ [] ≡ done = ap (λ b. s.done ++ b ∷ []) same ∙ sym are_done in
    subst (λ (xs : List ℕ). GoesOn g s (record s { path = front; next = step.index; marks = marks; done = xs })) d
    (subst (λ (xs : List Mark). GoesOn g s (record s { path = front; next = step.index; marks = xs; done = s.done ++ step.node ∷ [] })) m goes)

pub references-references-requires : goal.references-references-requires
references-references-requires c = subst (λ b. b < length c.args.graph.now) (sym c.last-node.ensures) (here_within c.args.graph.now c.args.self.now c.requires)

pub returns-in-New : goal.returns-in-New
returns-in-New c =
    let g = c.args.graph.now in
    let s = c.args.self.now in
    let at = next_at g s c.last-node.result c.references-references.result.now c.last-node.ensures c.references-references.ensures.lists c.if-self-references.true in
    goes_on g s c.follow.new.self _ c.follow.result c.follow.ensures.on c.follow.ensures.node
    (follows g s (get_or c.references-references.result.now s.next 0) c.requires at (c.references-references.ensures.nodes s.next 0 c.if-self-references.true) (c.of.ensures ∙ ap Some c.in-New.is))

pub returns-in-OnPath : goal.returns-in-OnPath
returns-in-OnPath c =
    let g = c.args.graph.now in
    let s = c.args.self.now in
    let at = next_at g s c.last-node.result c.references-references.result.now c.last-node.ensures c.references-references.ensures.lists c.if-self-references.true in
    meets g s (get_or c.references-references.result.now s.next 0) c.requires at (c.references-references.ensures.nodes s.next 0 c.if-self-references.true) (c.of.ensures ∙ ap Some c.in-OnPath.is)

pub returns-in-Done : goal.returns-in-Done
returns-in-Done c =
    let g = c.args.graph.now in
    let s = c.args.self.now in
    let at = next_at g s c.last-node.result c.references-references.result.now c.last-node.ensures c.references-references.ensures.lists c.if-self-references.true in
    passes g s (get_or c.references-references.result.now s.next 0) c.requires at (c.references-references.ensures.nodes s.next 0 c.if-self-references.true) (c.of.ensures ∙ ap Some c.in-Done.is)

pub set-requires : goal.set-requires
set-requires c =
    let s = c.args.self.now in
    subst (λ b. b < length s.marks) (sym c.last-node.ensures) (omega (arith, here_within c.args.graph.now s c.requires, c.requires.fits))

pub returns-in-None : goal.returns-in-None
returns-in-None c =
    let g = c.args.graph.now in
    let s = c.args.self.now in
    let seen = all_seen g s c.last-node.result c.references-references.result.now c.last-node.ensures c.references-references.ensures.lists c.if-self-references.false in
    let order : s.done ++ last_node s.start s.path ∷ [] ≡ c.push.new.self = ap (λ b. s.done ++ b ∷ []) (sym c.last-node.ensures) ∙ sym c.in_ok-push.ensures.ok in
    subst (λ (xs : List ℕ). IsOrder g s.start xs) order (ends g s c.requires seen (c.in-None.ensures.empty.0 refl))

pub returns-in-Some : goal.returns-in-Some
returns-in-Some c =
    let g = c.args.graph.now in
    let s = c.args.self.now in
    let seen = all_seen g s c.last-node.result c.references-references.result.now c.last-node.ensures c.references-references.ensures.lists c.if-self-references.false in
    goes_back g s c.pop.new.self c.in-Some.edge c.last-node.result c.set.new.self c.push.new.self c.last-node.ensures c.in-Some.ensures.last c.set.ensures c.in_ok-push.ensures.ok
    (finishes g s c.pop.new.self c.in-Some.edge c.requires seen c.in-Some.ensures.last)
