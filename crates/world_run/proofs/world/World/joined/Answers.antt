-- Each role has its number, since a protocol has at most eight roles.
use Rattle.std.proofs.Common.{◌∙◌, ap, arith, length, sym}
use Rattle.std.specs.Prelude.{slice_get}
use Rattle.world_run.specs.World.{WorldState}
use Rattle.world_run.proofs.world.World.joined.Goals as goal

pub of-requires : goal.of-requires
of-requires c =
    let one = c.self.invariant in
    omega (arith, c.requires, ap (λ (w : WorldState). length w.desks) c.self.view_is, one.are.count, one.protocol.shape.counts.few_roles)

pub returns : goal.returns
returns c = ap (λ (w : WorldState). slice_get w.joined c.args.role) (sym c.self.view_is) ∙ c.of.ensures
