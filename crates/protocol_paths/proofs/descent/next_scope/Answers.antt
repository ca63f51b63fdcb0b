-- One link more is one step more.
use Rattle.protocol_paths.proofs.OwnWordLemmas.{own_next}
use Rattle.protocol_paths.proofs.ResolutionLemmas.{ends_last, next_is}
use Rattle.protocol_paths.proofs.descent.next_scope.Goals as goal

pub invariant_of-result : goal.invariant_of-result
invariant_of-result c =
    let scope = c.args.scope.now in
    record {
      at_end = ends_last scope.top.now scope.links.now c.args.links.now c.args.last.now c.requires.last;
      own_words = own_next scope.top.now scope.protocol.now scope.links.now c.args.links.now c.args.last.now scope.at_end c.requires.last scope.own_words c.requires.own;
    }

pub returns : goal.returns
returns c =
    let scope = c.args.scope.now in
    next_is scope.top.now scope.protocol.now scope.links.now c.args.links.now c.args.last.now scope.at_end c.requires.last
