-- What has been written of a run.
use Rattle.std.proofs.Common.{◌≡◌, ◌++◌, take}
use Rattle.std.specs.List.{flat_map}
use Rattle.run_text.specs.RunText.{HaveValues, event_line, head_line}
use Rattle.run_text.proofs.writer.write_run.Given as goal

-- the events so far are written, with their values
abbrev pub invariant-loop-event : goal.invariant-loop-event
invariant-loop-event l = record {
  text : l.text ≡ head_line ++ flat_map (event_line l.a) (take l.event-index l.run);
  values : HaveValues (take l.event-index l.run);
}
