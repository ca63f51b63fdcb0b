-- The name in the scope is that along its links.
use Rattle.std.proofs.Common.{◌∙◌, ap, refl}
use Rattle.protocol_paths.specs.Scope.{role_at}
use Rattle.protocol_paths.proofs.ResolutionLemmas.{whole}
use Rattle.protocol_paths.proofs.substitution.role_word.Goals as goal

pub returns : goal.returns
returns c =
    let scope = c.args.scope.now in
    let name = c.args.role.now.text in
    record {
      text = c.lent.ensures ∙ c.as_slice.ensures ∙ c.given_role-given.ensures scope.top.now ∙ ap (λ s. role_at s name) (whole scope.top.now scope.protocol.now scope.links.now scope.at_end);
      offset = refl;
    }
