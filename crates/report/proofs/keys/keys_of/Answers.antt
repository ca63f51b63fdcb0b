-- The key of one event more, if it is the first of its key.
use Rattle.std.proofs.Common.{ap, ◌∙◌}
use Rattle.report.proofs.KeyLemmas.{event_at, key_is_new, key_is_old}
use Rattle.report.proofs.keys.keys_of.Goals as goal
use Rattle.report.proofs.keys.keys_of.Goals.{then-is_first+in_ok-push, else-is_first}

pub loop-position-preserved : goal.loop-position-preserved
loop-position-preserved c =
    let same = c.equal_values_are_one.ensures.lists in
    let run = c.args.index.now in
    let i = c.loop-position.position in
    let e = c.event-item.result in
    let at = event_at run c.events-event-items.result.now i e c.events-event-items.ensures c.loop-position-test.true c.event-item.is in
    elim c.if-is_first.branch [
      | then-is_first+in_ok-push w ↦ w.keys-is ∙ w.in_ok-push.ensures.ok ∙ rw (c.loop-position.invariant, ap (λ i. i.key) w.instance.ensures) (key_is_new same run i e at (rw w.if-is_first.true at c.is_first.ensures))
      | else-is_first w ↦ w.keys-is ∙ c.loop-position.invariant ∙ key_is_old same run i e at (rw w.if-is_first.false at c.is_first.ensures)
    ]
