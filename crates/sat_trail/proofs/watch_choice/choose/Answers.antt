-- Two literals are chosen, one beside the other.
use Rattle.std.proofs.Common.{refl}
use Rattle.sat_trail.proofs.ChoiceLemmas.{AreChosen-both}
use Rattle.sat_trail.proofs.watch_choice.choose.Goals as goal

pub returns-clause-chosen : goal.returns-clause-chosen
returns-clause-chosen c = AreChosen-both _ _ c.args.set.now.vars _ _ _ _ c.requires.exist refl c.in_ok-one.ensures.found c.in_ok-other.ensures.found
