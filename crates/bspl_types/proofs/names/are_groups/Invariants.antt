-- What the loop over the pieces leaves to ask.
use Rattle.std.proofs.Common.{◌≡◌, eqb, length}
use Rattle.std.specs.List.{list_all, slice_split}
use Rattle.bspl_types.specs.Name.{is_group}
use Rattle.bspl_types.proofs.names.are_groups.Given as goal

-- all pieces are groups where those that are left are
abbrev pub invariant-pieces : goal.invariant-pieces
invariant-pieces l = list_all is_group (slice_split (λ b. eqb b 35) l.rest) ≡ list_all is_group (slice_split (λ b. eqb b 35) l.text)

-- the text that is left grows shorter
abbrev pub decreases-pieces : goal.decreases-pieces
decreases-pieces l = length l.rest
