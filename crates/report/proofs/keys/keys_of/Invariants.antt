-- The keys that have been found.
use Rattle.std.proofs.Common.{◌≡◌, take}
use Rattle.report.specs.Keys.{keys_of}
use Rattle.report.proofs.keys.keys_of.Given as goal

-- the keys of the events so far are found
abbrev pub invariant-loop-position : goal.invariant-loop-position
invariant-loop-position l = l.keys ≡ keys_of (take l.position l.index)
