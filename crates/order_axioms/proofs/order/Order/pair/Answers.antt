-- The sign of the literal says which of the kinds of its variable comes first.
use Rattle.order_axioms.proofs.PairLemmas.{negative_pair, positive_pair}
use Rattle.order_axioms.proofs.order.Order.pair.Goals as goal

pub returns-in-Some-clause-some : goal.returns-in-Some-clause-some
returns-in-Some-clause-some c =
    positive_pair c.args.self c.args.lit c.in-Some.kinds c.in-Some.ensures.some c.if-lit.true

pub returns-in-Some-2-clause-some : goal.returns-in-Some-2-clause-some
returns-in-Some-2-clause-some c =
    negative_pair c.args.self c.args.lit c.in-Some.kinds c.in-Some.ensures.some c.if-lit.false
