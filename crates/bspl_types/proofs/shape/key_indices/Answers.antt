-- A parameter that is a key adds its place, and another none.
use Rattle.std.proofs.Common.{◌≡◌, ◌∷◌, [], ◌++◌, sym, ◌∙◌, ap, cond, take, List, ℕ, Bool, append-nil}
use Rattle.bspl_types.specs.Shape.{key_indices}
use Rattle.bspl_types.proofs.KeyPlaces.{key_places_more}
use Rattle.bspl_types.proofs.shape.key_indices.Goals as goal
use Rattle.bspl_types.proofs.shape.key_indices.Goals.{then-p+in_ok-push, else-p}

pub loop-index-preserved : goal.loop-index-preserved
loop-index-preserved c =
    let more = key_places_more c.args.params.now c.loop-index.index c.index-params-index.result c.loop-index-test.true c.index-params-index.is in
    let so_far = key_indices (take c.loop-index.index c.args.params.now) in
    let added = λ (is_key : Bool). so_far ++ cond is_key (c.loop-index.index ∷ []) [] in
    elim c.if-p.branch [
      | then-p+in_ok-push w ↦ w.keys-is ∙ w.in_ok-push.ensures.ok ∙ ap (λ (keys : List ℕ). keys ++ c.loop-index.index ∷ []) c.loop-index.invariant ∙ ap added (sym w.if-p.true) ∙ sym more
      | else-p w ↦ w.keys-is ∙ c.loop-index.invariant ∙ (let none : so_far ≡ added c.index-params-index.result.key = simp (w.if-p.false, append-nil) in none) ∙ sym more
    ]
