-- The law of new states, of this one.
use Rattle.std.proofs.Common.{lit<, subst, sym}
use Rattle.adapter.specs.State.{IsStateKept, StateView}
use Rattle.world_run.proofs.locks.locked_state.Goals as goal

pub of-requires : goal.of-requires
of-requires g c =
    let s : StateView = record { desk = c.args.desk; passes = c.args.passes } in
    (lit< tt, subst (IsStateKept g.N.Scene.job g.row.R g.M.Mail.boxes) (sym c.open.ensures) (c.new_states_are_kept.ensures g.N.Scene.job g.row.R g.M.Mail.boxes s c.requires))
