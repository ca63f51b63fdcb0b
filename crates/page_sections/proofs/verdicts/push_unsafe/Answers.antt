-- The name is that of the parameter.
use Rattle.page_sections.proofs.verdicts.push_unsafe.Goals as goal

pub returns : goal.returns
returns c = rw c.param_name.ensures at c.fill.ensures
