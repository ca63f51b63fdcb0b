-- The events up to the first emission are the run cut after it.
use Rattle.std.proofs.Common.{arith}
use Rattle.enactability.proofs.CutLemmas.{cut_at, first_within, none_found}
use Rattle.enactability.proofs.cut.cut_of.Goals as goal

pub first_events-requires : goal.first_events-requires
first_events-requires c = (let within = first_within c.args.run.now c.args.message c.in-Some.index c.in-Some.ensures in omega (arith, within))

pub returns-in_ok-first_events-in-Some : goal.returns-in_ok-first_events-in-Some
returns-in_ok-first_events-in-Some c = cut_at c.args.run.now c.in_ok-first_events-in-Some.field-0 c.args.message c.in-Some.index c.in-Some.ensures c.in_ok-first_events-in-Some.ensures

pub returns-in-None : goal.returns-in-None
returns-in-None c = none_found c.args.run.now c.args.message c.in-None.ensures
