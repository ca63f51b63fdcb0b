-- A key of the next number is new.
use Rattle.std.proofs.Common.{◌+◌, arith}
use Rattle.script_text.proofs.KeyLemmas.{later_is_new}
use Rattle.script_text.proofs.keys.counted_keys.Goals as goal

pub add-requires : goal.add-requires
add-requires c = rw (c.loop-n.invariant, c.counted_key.ensures) (later_is_new c.args.width c.loop-n.n (c.loop-n.n + 1) c.requires.some (omega arith))
