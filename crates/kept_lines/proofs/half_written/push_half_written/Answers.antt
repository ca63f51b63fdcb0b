-- One byte more, and the end.
use Rattle.std.proofs.Common.{◌≡◌, ◌++◌, ◌∷◌, [], List, ℕ, Bool, false, cond, length, take, ap, sym, ◌∙◌, append_assoc, arith}
use Rattle.std.specs.Prelude.{slice_index_or as get_or}
use Rattle.std.proofs.lemmas.List.{take_all}
use Rattle.kept_lines.specs.Memory.{half_left}
use Rattle.kept_lines.proofs.HalfLemmas.{left_length, left_more}
use Rattle.kept_lines.proofs.half_written.push_half_written.Goals as goal
use Rattle.kept_lines.proofs.half_written.push_half_written.Goals.{then-reached-index, else-reached-index}

-- the byte, or a 0, comes behind those that were put there
pub loop-index-preserved : goal.loop-index-preserved
loop-index-preserved c =
    let written = c.args.written.now in
    let reached = c.args.reached.now in
    let index = c.loop-index.index in
    let next = c.if-reached-index.push in
    let byte = get_or written index 0 in
    let is_left : next ≡ cond (get_or reached index false) byte 0 =
    (elim c.if-reached-index.branch as (λ _. next ≡ cond (get_or reached index false) byte 0) [
      | then-reached-index w ↦ w.push-is ∙ ap (λ (b : Bool). cond b byte 0) (sym w.if-reached-index.true)
      | else-reached-index w ↦ w.push-is ∙ ap (λ (b : Bool). cond b byte 0) (sym w.if-reached-index.false)
    ]) in
    let more = left_more written reached index next (omega (arith, c.loop-index-test.true, c.min-index-end.ensures)) (omega (arith, c.loop-index-test.true, c.min-index-end.ensures)) is_left in
    c.in_ok-push.ensures.ok
    ∙ ap (λ (bytes : List ℕ). bytes ++ next ∷ []) c.loop-index.invariant
    ∙ append_assoc c.args.image.now (take index (half_left written reached)) (next ∷ [])
    ∙ ap (λ (bytes : List ℕ). c.args.image.now ++ bytes) (sym more)

-- the loop has come to its end
pub returns-clause-exact : goal.returns-clause-exact
returns-clause-exact c =
    let left = half_left c.args.written.now c.args.reached.now in
    let whole = left_length c.args.written.now c.args.reached.now in
    c.loop-index.invariant
    ∙ ap (λ (bytes : List ℕ). c.args.image.now ++ bytes) (take_all c.loop-index.index left (omega (arith, whole, c.loop-index-test.false, c.min-index-end.ensures)))
