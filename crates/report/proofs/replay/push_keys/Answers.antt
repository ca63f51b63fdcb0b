-- The line of one key more.
use Rattle.std.proofs.Common.{◌++◌, ◌∷◌, [], refl}
use Rattle.list_base.proofs.Zipped.{paired_push}
use Rattle.report.specs.ReplayLines.{key_line}
use Rattle.report.specs.ReplayText.{IsKeyLine}
use Rattle.report.proofs.LineLemmas.{lines_push}
use Rattle.report.proofs.replay.push_keys.Goals as goal

pub loop-key-preserved : goal.loop-key-preserved
loop-key-preserved c =
    let x = c.args.x.now in
    let run = c.args.index.now in
    let key = c.key-item.result in
    let status = c.in_ok-status_of.field-0 in
    let before = c.loop-key.invariant in
    let line = key_line x key status in
    let is_line : IsKeyLine x run key line = record { status = status; is_status = c.in_ok-status_of.ensures; line_is = refl } in
    record {
      lines = before.lines ++ line ∷ [];
      each = paired_push (IsKeyLine x run) c.args.keys.now before.lines c.loop-key.key-index key line c.loop-key-test.true c.key-item.is before.each is_line;
      text = rw (c.in_ok-push_key.ensures, before.text) (lines_push c.args.text.now before.lines line);
    }
