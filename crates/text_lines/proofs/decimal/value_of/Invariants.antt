-- What the digits so far amount to.
use Rattle.std.proofs.Common.{◌≡◌, ◌+◌, min, take}
use Rattle.std.specs.Str.Parse.{digits_value}
use Rattle.text_lines.proofs.decimal.value_of.Given as goal

-- the value of the digits so far, if it is not too large
abbrev pub invariant-loop-digit : goal.invariant-loop-digit
invariant-loop-digit l = l.value ≡ min (digits_value 10 (take l.digit-index l.digits)) (l.most + 1)
