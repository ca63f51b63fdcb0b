-- The bit that is taken out is not set, and the others stay.
use Rattle.std.specs.Int.{w128}
use Rattle.std.proofs.lemmas.Nat.Bits.{bit_at_clear_same, bit_at_clear_other}
use Rattle.order_propagator.proofs.bits.without_bit.Goals as goal

pub returns : goal.returns
returns c = record { clear = bit_at_clear_same w128 _ _ c.requires; others = bit_at_clear_other w128 _ _ c.requires }
