-- The name in the scope is that along its links.
use Rattle.std.proofs.Common.{◌∙◌, ap, refl}
use Rattle.protocol_paths.specs.Scope.{param_at}
use Rattle.protocol_paths.proofs.ResolutionLemmas.{whole}
use Rattle.protocol_paths.proofs.substitution.param_word.Goals as goal

pub returns : goal.returns
returns c =
    let scope = c.args.scope.now in
    let name = c.args.param.now.text in
    record {
      text = c.in_ok-share.ensures ∙ c.given_param-given.ensures scope.top.now scope.own_words ∙ ap (λ s. param_at s name) (whole scope.top.now scope.protocol.now scope.links.now scope.at_end);
      offset = refl;
    }
