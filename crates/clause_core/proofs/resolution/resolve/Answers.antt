-- What is returned is a resolvent, so it follows.
use Rattle.std.proofs.Common.{rules}
use Rattle.clause_core.specs.Resolvent.{IsResolvent}
use Rattle.clause_core.proofs.ResolventLemmas.{resolvent_follows}
use Rattle.clause_core.proofs.resolution.resolve.Goals as goal

pub returns-clause-sound : goal.returns-clause-sound
returns-clause-sound c =
    let is : IsResolvent c.args.c.now c.args.pivot c.args.d.now c.ascending.result = search rules in
    resolvent_follows _ _ _ c.args.pivot is
