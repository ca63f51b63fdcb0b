-- The state says what the bytes so far are, and the last end is the longest name so far.
use Rattle.std.proofs.Common.{◌≡◌, ◌≤◌, drop}
use Rattle.bspl_parser.specs.declared.name_length.State.TheVariants.{Start}
use Rattle.bspl_parser.specs.inner.NameLength.{last_end}
use Rattle.bspl_parser.proofs.name_length.long_name_len.Given as goal

-- the bytes that are left have the last end
abbrev pub invariant-loop-i : goal.invariant-loop-i
invariant-loop-i l = (last_end l.state l.len l.i (drop l.i l.bytes) ≡ last_end Start 0 0 l.bytes) × (l.len ≤ l.i)
