-- What the loop over the bytes that are written keeps.
use Rattle.std.proofs.Common.{◌≡◌, ◌++◌, take}
use Rattle.kept_lines.specs.Memory.{half_left}
use Rattle.kept_lines.proofs.half_written.push_half_written.Given as goal

-- what is left of the first of the bytes was put at the end
abbrev pub invariant-loop-index : goal.invariant-loop-index
invariant-loop-index l = l.image ≡ l.fn.image ++ take l.index (half_left l.written l.reached)
