-- One event more is written, with its values.
use Rattle.std.proofs.Common.{All, arith, subst}
use Rattle.std.proofs.lemmas.Grind.{common_steps}
use Rattle.std.proofs.lemmas.List.Elements.{All-more}
use Rattle.bspl_types.specs.declared.event.Event.{Event}
use Rattle.bspl_types.specs.History.{instance_of}
use Rattle.bspl_types.specs.Value.{IsValue}
use Rattle.run_text.proofs.writer.write_run.Goals as goal

pub loop-event-preserved : goal.loop-event-preserved
loop-event-preserved c =
    let P : Event → Type 0 = λ event. All IsValue (instance_of event).values in
    let one = subst P c.event-item.is c.in_ok-push_event.ensures.values in
    record {
      text = grind (arith, common_steps);
      values = All-more P c.args.run.now c.loop-event.event-index c.event-item.result c.loop-event-test.true c.loop-event.invariant.values one;
    }
