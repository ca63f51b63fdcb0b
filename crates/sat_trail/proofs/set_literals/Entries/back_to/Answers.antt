-- One entry more is taken out.
use Rattle.std.proofs.Common.{◌<◌, subst}
use Rattle.sat_trail.proofs.StorageLemmas.{StartsWith-pop}
use Rattle.sat_trail.proofs.set_literals.Entries.back_to.Goals as goal

pub loop-self-preserved : goal.loop-self-preserved
loop-self-preserved c =
    StartsWith-pop c.args.level _ c.loop-self.self _ c.loop-self.invariant (subst (λ n. c.args.level < n) c.last_level.ensures c.loop-self-test.true) c.pop.ensures
