-- A bit of both words is the lesser of their bits.
use Rattle.std.proofs.Common.{◌∙◌, ap, min}
use Rattle.std.specs.Int.{bit_at, bit_not, w128}
use Rattle.std.proofs.lemmas.Nat.Bits.{bit_at_and, bit_at_not}
use Rattle.order_propagator.proofs.bits.bits_beyond.Goals as goal

pub returns : goal.returns
returns c = λ i within. bit_at_and c.args.word (bit_not w128 c.args.other) i ∙ ap (min (bit_at c.args.word i)) (bit_at_not w128 c.args.other i c.ranges.other.fits within)
