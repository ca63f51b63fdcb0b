-- What is left to write of the string.
use Rattle.std.proofs.Common.{◌≡◌, ◌++◌, [], ◌∷◌, drop}
use Rattle.json.specs.Print.{escape, quoted}
use Rattle.wire_form.proofs.quoted.push_quoted.Given as goal

-- with what is left it is all of it
abbrev pub invariant-loop-byte : goal.invariant-loop-byte
invariant-loop-byte l = l.text ++ (escape (drop l.byte-index l.bytes) ++ 34 ∷ []) ≡ l.fn.text ++ quoted l.bytes
