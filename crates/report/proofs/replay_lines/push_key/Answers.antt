-- The line is written field by field.
use Rattle.report.proofs.LineLemmas.{key_written}
use Rattle.report.proofs.replay_lines.push_key.Goals as goal

pub returns : goal.returns
returns c =
    let line = key_written c.args.x.now c.args.text.now c.args.key.now c.args.status in
    rw (c.in_ok-push_status.ensures, c.in_ok-push_values.ensures, c.in_ok-append.ensures.ok, c.as_slice.ensures.values, line) at c.push.ensures.ok
