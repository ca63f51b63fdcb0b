-- The words of the last link.
use Rattle.std.proofs.Common.{◌≡◌, ◌∷◌, [], ◌++◌}
use Rattle.protocol_paths.proofs.OwnWordLemmas.{own_last}
use Rattle.protocol_paths.proofs.own_words.scope_words.Goals as goal

pub returns : goal.returns
returns c =
    let scope = c.args.scope.now in
    let parts : scope.links.now ≡ c.in-Some.field-0-1.now ++ c.in-Some.last.now ∷ [] = cc (c.in-Some.ensures.cases.0, c.in-Some.last-is) in
    own_last scope.top.now scope.protocol.now scope.links.now c.in-Some.field-0-1.now c.in-Some.last.now parts scope.at_end scope.own_words
