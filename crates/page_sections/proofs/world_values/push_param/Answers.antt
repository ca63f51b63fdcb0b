-- The name is that of the parameter.
use Rattle.page_sections.proofs.world_values.push_param.Goals as goal

pub returns : goal.returns
returns c = rw c.as_slice.ensures at c.fill.ensures
