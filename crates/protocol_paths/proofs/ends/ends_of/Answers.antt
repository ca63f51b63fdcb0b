-- What was added to nothing.
use Rattle.protocol_paths.specs.inner.ScopeOf.{protocols_of, scope_of}
use Rattle.protocol_paths.proofs.EndLemmas.{are_ends}
use Rattle.protocol_paths.proofs.ends.ends_of.Goals as goal

pub returns : goal.returns
returns c =
    are_ends c.args.context.now.limit (protocols_of c.args.context.now) c.args.top.now (scope_of c.top_scope-scope.result) _ c.add_ends.new.ends c.top_scope-scope.ensures c.new.ensures c.new-2.ensures c.in_ok-add_ends.ensures
