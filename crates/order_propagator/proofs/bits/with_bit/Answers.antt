-- The bit that is put in is set, and the others stay.
use Rattle.std.specs.Int.{w128}
use Rattle.std.proofs.lemmas.Nat.Bits.{bit_at_set_same, bit_at_set_other}
use Rattle.order_propagator.proofs.bits.with_bit.Goals as goal

pub returns : goal.returns
returns c = record { set = bit_at_set_same w128 _ _ c.requires; others = bit_at_set_other w128 _ _ c.requires }
