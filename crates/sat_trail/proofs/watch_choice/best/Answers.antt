-- A free literal is taken at once, and else one that is left.
use Rattle.sat_trail.proofs.ChoiceLemmas.{MayWatch-left}
use Rattle.sat_trail.proofs.watch_choice.best.Goals as goal

pub returns-clause-found : goal.returns-clause-found
returns-clause-found c = MayWatch-left _ _ _ _ _ c.in_default.ensures.none c.last_left.ensures.found
