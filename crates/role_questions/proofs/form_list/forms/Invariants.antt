-- What the loop over the messages keeps.
use Rattle.role_questions.proofs.EnabledLemmas.{FormsBefore}
use Rattle.role_questions.proofs.form_list.forms.Given as goal

-- the forms of the messages before this one
abbrev pub invariant-loop-message : goal.invariant-loop-message
invariant-loop-message l = FormsBefore l.fn.store l.fn.key l.message l.forms
