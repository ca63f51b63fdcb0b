-- The parts of a status.
use Rattle.std.proofs.Common.{◌++◌, codes, refl, ap, ◌∙◌}
use Rattle.std.proofs.lemmas.Result.{on_ok_weaker}
use Rattle.wire_form.specs.Reply.{only}
use Rattle.role_questions.specs.Answers.{status_members}
use Rattle.role_questions.specs.inner.Written.{names_text}
use Rattle.role_questions.proofs.WrittenLemmas.{status_text}
use Rattle.role_questions.proofs.status_text.push_status.Goals as goal

pub returns : goal.returns
returns c =
    let s = c.args.store.now in
    on_ok_weaker c.push_names.result (λ e. record {
      answer = only (codes "status") (status_members s);
      answers = refl;
      added = e ∙ ap (λ t. t ++ names_text s) c.in_ok-push_counts.ensures ∙ status_text c.args.text.now s;
    }) c.push_names.ensures
