-- Each step names clauses that are there.
use Rattle.verdict.proofs.RangeLemmas.{in_range}
use Rattle.verdict.proofs.laws.numbers_in_range.Goals as goal

pub returns : goal.returns
returns c = in_range c.steps_are_counted.ensures
