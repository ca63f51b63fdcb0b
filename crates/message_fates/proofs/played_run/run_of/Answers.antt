-- One message more.
use Rattle.std.proofs.Common.{sym, subst}
use Rattle.bspl_types.specs.History.{IsRun}
use Rattle.message_fates.proofs.RunLemmas.{lent_more}
use Rattle.message_fates.proofs.played_run.run_of.Goals as goal
use Rattle.message_fates.proofs.played_run.run_of.Goals.{then-fits+in_ok-push_both, else-fits}

pub loop-message-preserved : goal.loop-message-preserved
loop-message-preserved c =
    let x = c.args.protocol.now in
    elim c.if-fits.branch [
      | then-fits+in_ok-push_both w ↦
          subst (IsRun x) (sym w.run-is) (subst (IsRun x) (sym w.in_ok-push_both.ensures)
          (lent_more x c.expanded-x.result.now c.loop-message.run _ c.expanded-x.ensures.same (c.fits.ensures.0 w.if-fits.true) c.loop-message.invariant))
      | else-fits w ↦ subst (IsRun x) (sym w.run-is) c.loop-message.invariant
    ]
