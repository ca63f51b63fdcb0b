-- What is left of the number grows smaller.
use Rattle.bspl_types.proofs.spelling.+spelled_number.Given as goal

-- the number itself
abbrev pub decreases-spelled_number : goal.decreases-spelled_number
decreases-spelled_number l = l.number
