-- The line is written field by field.
use Rattle.std.proofs.lemmas.Option.{get_or_from_slice_get}
use Rattle.bspl_types.specs.Expansion.{no_message}
use Rattle.run_text.proofs.LineFieldsLemmas.{written_line}
use Rattle.run_text.proofs.writer.push_line.Goals as goal

pub returns-clause-text : goal.returns-clause-text
returns-clause-text c =
    let x = c.args.x.now in
    let i = c.args.i.now in
    let m = c.at-message.result.now in
    let is = get_or_from_slice_get x.messages i.message m no_message c.at-message.ensures in
    let line = written_line x i m c.args.text.now c.args.word.now is in
    let front = rw (c.in_ok-append-2.ensures.ok, c.in_ok-push.ensures.ok, c.in_ok-append.ensures.ok, c.as_slice.ensures, c.as_slice-carried.ensures, c.as_slice-2.ensures, c.as_slice-3.ensures.values) at c.in_ok-push_values.ensures.text in
    rw (← line, ← front) c.push-2.ensures.ok
