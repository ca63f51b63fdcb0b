-- Each part has the marks of its tag.
use Rattle.html.proofs.MarkupLemmas.{all_marks}
use Rattle.html.proofs.laws.marks_are_those_of_tags.Goals as goal

pub returns : goal.returns
returns c = all_marks
