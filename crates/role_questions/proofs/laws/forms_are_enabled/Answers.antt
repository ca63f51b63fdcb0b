-- The forms are what is filled in.
use Rattle.role_questions.proofs.LawLemmas.{filled_forms}
use Rattle.role_questions.proofs.laws.forms_are_enabled.Goals as goal

pub returns : goal.returns
returns c = filled_forms
