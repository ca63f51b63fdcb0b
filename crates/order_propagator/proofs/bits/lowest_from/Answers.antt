-- The lowest of the bits that are left is the lowest from the place on.
use Rattle.std.proofs.Common.{◌-◌, ◌*◌, ◌%◌, ◌^◌, arith}
use Rattle.std.proofs.lemmas.Nat.{and_le_l}
use Rattle.order_propagator.proofs.BitLemmas.{lowest-high, none-high}
use Rattle.order_propagator.proofs.bits.lowest_from.Goals as goal

pub returns-then-left-eq0-clause-none : goal.returns-then-left-eq0-clause-none
returns-then-left-eq0-clause-none c = none-high c.args.word c.args.place c.requires c.if-left-eq0.true

pub returns-clause-some : goal.returns-clause-some
returns-clause-some c = lowest-high c.args.word c.args.place c.requires (omega (arith, c.if-left-eq0.false)) (omega (arith, c.ranges.word.fits, and_le_l c.args.word ((2 ^ 128 - 1) * 2 ^ c.args.place % 2 ^ 128)))
