-- One message more.
use Rattle.std.proofs.Common.{◌≡◌, List, Option, Some, length, subst, sym, ◌∙◌}
use Rattle.std.proofs.lemmas.Bool.{false≢true}
use Rattle.std.proofs.lemmas.List.{length-set}
use Rattle.enactability.specs.Enactable.{Enactable}
use Rattle.message_fates.specs.declared.fate.Fate.{Fate}
use Rattle.message_fates.specs.declared.fate.Fate.TheVariants.{Dead}
use Rattle.message_fates.specs.inner.Known.{AreKnown}
use Rattle.message_fates.proofs.KnownLemmas.{known_more}
use Rattle.message_fates.proofs.known.mark_unreached.Goals as goal
use Rattle.message_fates.proofs.known.mark_unreached.Goals.{then-not-is_reached, else-not-is_reached}

pub marked-preserved : goal.marked-preserved
marked-preserved c =
    let x = c.args.x.now in
    let m = c.marked.message in
    let known = c.marked.known in
    let Keeps = λ (fates : List (Option Fate)). AreKnown x fates × (length fates ≡ length c.args.known.now) in
    elim c.if-not-is_reached.branch [
      | then-not-is_reached w ↦
          let dead : ¬ Enactable x m = λ enactable.
          let reached = c.enactable_is_reached.ensures x c.reach-reach.result m (c.is_closed.ensures c.if-not-is_closed.false) enactable in
          false≢true (sym w.if-not-is_reached.true ∙ c.is_reached.ensures.1 reached) in
          subst Keeps (sym w.known-is) (known_more x known m Dead dead c.marked.invariant.0, length-set known m (Some Dead) ∙ c.marked.invariant.1)
      | else-not-is_reached w ↦ subst Keeps (sym w.known-is) c.marked.invariant
    ]
