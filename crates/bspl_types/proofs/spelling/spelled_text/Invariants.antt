-- What the loop over the bytes has spelled.
use Rattle.std.proofs.Common.{◌≡◌, ◌∷◌, take}
use Rattle.bspl_types.specs.inner.Spelling.{spelled_bytes}
use Rattle.bspl_types.proofs.spelling.spelled_text.Given as goal

-- a quote, and the bytes before the index
abbrev pub invariant-loop-byte : goal.invariant-loop-byte
invariant-loop-byte l = l.spelled ≡ 34 ∷ spelled_bytes (take l.byte-index l.text)
