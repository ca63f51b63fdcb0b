-- A negative literal has the pair of its variable the other way round.
use Rattle.order_propagator.proofs.PairLemmas.{no-pair, pair-negative, pair-positive}
use Rattle.order_propagator.proofs.known_pairs.KnownPairs.pair.Goals as goal

pub returns-in-Some-clause-some : goal.returns-in-Some-clause-some
returns-in-Some-clause-some c = pair-positive c.args.self.now c.args.lit c.in-Some.pair c.if-lit.true c.in-Some.ensures.some

pub returns-in-Some-2-clause-some : goal.returns-in-Some-2-clause-some
returns-in-Some-2-clause-some c = pair-negative c.args.self.now c.args.lit c.in-Some.pair c.if-lit.false c.in-Some.ensures.some

pub returns-in-None-clause-none : goal.returns-in-None-clause-none
returns-in-None-clause-none c = no-pair c.args.self.now c.args.lit c.in-None.ensures.none
