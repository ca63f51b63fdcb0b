-- There is room for three bytes more, and for the closing quote.
use Rattle.std.proofs.Common.{length, ap, arith}
use Rattle.bspl_types.proofs.SpellingLemmas.{length-spelled_bytes}
use Rattle.bspl_types.proofs.spelling.spelled_text.Goals as goal

pub push_byte-requires : goal.push_byte-requires
push_byte-requires c = omega (arith, ap length c.loop-byte.invariant, length-spelled_bytes c.args.text.now c.loop-byte.byte-index, c.loop-byte-test.true, c.requires)

pub push-requires-2 : goal.push-requires-2
push-requires-2 c = omega (arith, ap length c.loop-byte.invariant, length-spelled_bytes c.args.text.now c.loop-byte.byte-index, c.requires)
