-- The line on one reference more.
use Rattle.std.proofs.Common.{◌∙◌, ◌++◌, ℕ, List, ap, append_assoc, get_or, sym, take}
use Rattle.std.specs.List.{flat_map}
use Rattle.answer_words.specs.Ways.{by_reference}
use Rattle.answer_words.proofs.WayLemmas.{flat_more}
use Rattle.answer_words.proofs.ways.push_references.Goals as goal

pub loop-offset-preserved : goal.loop-offset-preserved
loop-offset-preserved c =
    let line = by_reference c.args.input.now in
    let offsets = c.args.references.now in
    let i = c.loop-offset.offset-index in
    let next = line (get_or offsets i 0) in
    let so_far = flat_map line (take i offsets) in
    c.in_ok-push_by.ensures
    ∙ ap (λ (t : List ℕ). t ++ next) c.loop-offset.invariant
    ∙ append_assoc c.args.text.now so_far next
    ∙ ap (λ (t : List ℕ). c.args.text.now ++ t) (sym (flat_more line offsets i c.loop-offset-test.true))
