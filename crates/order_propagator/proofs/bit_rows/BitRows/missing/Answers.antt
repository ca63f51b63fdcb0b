-- A bit of either word is the greater of their bits.
use Rattle.std.proofs.Common.{ℕ, ◌-◌, ◌∙◌, ap₂, max, min}
use Rattle.std.proofs.lemmas.List.{get_or_read}
use Rattle.std.proofs.lemmas.Nat.Bits.{bit_at_or}
use Rattle.std.specs.Int.{bit_at}
use Rattle.order_propagator.proofs.bit_rows.BitRows.missing.Goals as goal

pub returns : goal.returns
returns c = λ i within.
    let beyond = λ (a b : ℕ). min (bit_at a i) (1 - bit_at b i) in
    bit_at_or c.bits_beyond.result c.bits_beyond-2.result i ∙ ap₂ max
    (c.bits_beyond.ensures i within ∙ ap₂ beyond
    (get_or_read c.args.self.now.after.items c.args.y c.index.result.now c.requires.y.after c.index.ensures 0)
    (get_or_read c.args.self.now.after.items c.args.x c.index-2.result.now c.requires.x.after c.index-2.ensures 0))
    (c.bits_beyond-2.ensures i within ∙ ap₂ beyond
    (get_or_read c.args.self.now.before.items c.args.x c.index-3.result.now c.requires.x.before c.index-3.ensures 0)
    (get_or_read c.args.self.now.before.items c.args.y c.index-4.result.now c.requires.y.before c.index-4.ensures 0))
