-- One bit of the row changes.
use Rattle.std.proofs.Common.{ℕ, ◌∙◌, ap}
use Rattle.std.proofs.lemmas.List.{get_or_read}
use Rattle.std.specs.Int.{bit_at}
use Rattle.order_propagator.proofs.BitLemmas.{sets-bit}
use Rattle.order_propagator.proofs.bit_rows.clear_bit.Goals as goal

pub returns : goal.returns
returns c = sets-bit c.args.rows.now.items c.args.x c.args.y 0 c.without_bit.result c.requires.row c.requires.bit.0 c.without_bit.ensures.clear
    (λ i few other. c.without_bit.ensures.others i few other ∙ ap (λ (word : ℕ). bit_at word i) (get_or_read c.args.rows.now.items c.args.x c.index.result.now c.requires.row c.index.ensures 0))
