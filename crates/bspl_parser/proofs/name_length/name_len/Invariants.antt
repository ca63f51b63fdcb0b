-- The bytes so far are a plain name.
use Rattle.std.proofs.Common.{◌≡◌, ◌≤◌, ◌-◌, drop, length}
use Rattle.bspl_parser.specs.declared.name_length.State.TheVariants.{Plain}
use Rattle.bspl_parser.specs.inner.NameLength.{last_end, name_len}
use Rattle.bspl_parser.proofs.name_length.name_len.Given as goal

-- the bytes that are left have the last end
abbrev pub invariant-loop-len : goal.invariant-loop-len
invariant-loop-len l = (last_end Plain l.len l.len (drop l.len l.bytes) ≡ name_len l.bytes) × (l.len ≤ length l.bytes)

abbrev pub decreases-loop-len : goal.decreases-loop-len
decreases-loop-len l = length l.bytes - l.len
