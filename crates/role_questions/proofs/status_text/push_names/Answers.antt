-- The names of a status.
use Rattle.std.proofs.Common.{◌++◌, codes, ap, ap₂, ◌∙◌}
use Rattle.std.specs.Prelude.{decimal}
use Rattle.std.proofs.lemmas.Result.{on_ok_weaker}
use Rattle.json.specs.Print.{quoted}
use Rattle.bspl_types.specs.declared.expanded.Expanded.{Expanded}
use Rattle.bspl_types.specs.Expansion.{role_name}
use Rattle.role_questions.proofs.WrittenLemmas.{in_seven}
use Rattle.role_questions.proofs.status_text.push_names.Goals as goal

pub returns : goal.returns
returns c =
    let text = c.args.text.now in
    let s = c.args.store.now in
    let x_is = c.expanded-x.ensures.same ∙ c.admitted.ensures in
    let protocol = c.in_ok-push_quoted.ensures ∙ ap₂ (λ t n. t ++ quoted n) c.in_ok-append.ensures.ok (c.as_slice.ensures ∙ ap (λ (x : Expanded). x.name) x_is) in
    let role = c.in_ok-push_quoted-2.ensures ∙ ap₂ (λ t n. t ++ quoted n) (c.in_ok-append-2.ensures.ok ∙ ap (λ t. t ++ codes ",\"role\":") protocol) (c.role_name.ensures ∙ ap₂ role_name x_is c.role.ensures) in
    let version = c.in_ok-push_number.ensures ∙ ap (λ t. t ++ decimal 1) (c.in_ok-append-3.ensures.ok ∙ ap (λ t. t ++ codes ",\"version\":") role) in
    on_ok_weaker c.append-4.result (λ e. e ∙ ap (λ t. t ++ codes "}}") version
    ∙ in_seven text (codes ",\"protocol\":") (quoted s.protocol.name) (codes ",\"role\":") (quoted (role_name s.protocol s.role)) (codes ",\"version\":") (decimal 1) (codes "}}")) c.append-4.ensures.ok
