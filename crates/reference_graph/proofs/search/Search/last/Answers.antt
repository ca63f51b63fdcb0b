-- A path ends at the node of its last step.
use Rattle.std.proofs.Common.{◌≡◌, ◌-◌, ℕ, suc, List, [], ◌∷◌, Some, length, slice_get, sym, ap, ◌∙◌, subst, arith}
use Rattle.reference_graph.specs.declared.edge.Edge.{Edge}
use Rattle.reference_graph.specs.Path.{last_node}
use Rattle.reference_graph.proofs.search.Search.last.Goals as goal

-- the last step of a path gives its end
last_node-last : (a : ℕ) (path : List Edge) (s : Edge) → slice_get path (length path - 1) ≡ Some s → s.node ≡ last_node a path
last_node-last a [] s is = cc
last_node-last a (t ∷ []) s is =
    let at : length (t ∷ []) - 1 ≡ 0 = omega arith in
    let same : Some t ≡ Some s = subst (λ k. slice_get (t ∷ []) k ≡ Some s) at is in
    let step : s ≡ t = cc in
    ap (λ (r : Edge). r.node) step
last_node-last a (t ∷ (r ∷ path)) s is =
    let at : length (t ∷ (r ∷ path)) - 1 ≡ suc (length path) = omega arith in
    let rest : length path ≡ length (r ∷ path) - 1 = omega arith in
    last_node-last t.node (r ∷ path) s
    (subst (λ k. slice_get (r ∷ path) k ≡ Some s) rest (subst (λ k. slice_get (t ∷ (r ∷ path)) k ≡ Some s) at is))

pub returns-in-Some : goal.returns-in-Some
returns-in-Some c =
    let path = c.args.self.now.path in
    last_node-last c.args.self.now.start path c.in-Some.edge.now
    (ap (λ (steps : List Edge). slice_get steps (length steps - 1)) (sym c.as_slice.ensures) ∙ sym c.in-Some.ensures.value)
