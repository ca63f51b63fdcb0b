-- What the loop over the bytes leaves to search.
use Rattle.std.proofs.Common.{◌≡◌, ◌+◌, drop, eqb}
use Rattle.std.specs.List.{position_or_len}
use Rattle.bspl_types.proofs.names.first_index.Given as goal

-- the first index in what is left is that of the whole
abbrev pub invariant-loop-index : goal.invariant-loop-index
invariant-loop-index l = l.index + position_or_len (λ b. eqb b l.wanted) (drop l.index l.text) ≡ position_or_len (λ b. eqb b l.wanted) l.text
