-- The name is that of the parameter.
use Rattle.page_sections.proofs.run_words.push_why.Goals as goal

pub returns-in-Bound : goal.returns-in-Bound
returns-in-Bound c = rw c.in-Bound.is (rw c.param_name-in-Bound.ensures at c.push_kept.ensures)

pub returns-in-Unsent : goal.returns-in-Unsent
returns-in-Unsent c = rw c.in-Unsent.is c.push_fragments.ensures
