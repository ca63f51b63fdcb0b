-- The run of the answer is shown.
use Rattle.page_sections.proofs.rules.push_answer_run.Goals as goal

pub returns-in-Possible : goal.returns-in-Possible
returns-in-Possible c = rw c.in-Possible.is (rw c.as_slice.ensures at c.push_evidence.ensures)
