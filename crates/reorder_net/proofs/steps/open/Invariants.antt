-- The home that is named is the role.
use Rattle.reorder_net.proofs.steps.open.Given as goal

abbrev pub ghosts-name : goal.ghosts-name
ghosts-name g a = record { role = a.home }
