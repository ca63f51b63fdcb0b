-- What is found with one line more.
use Rattle.std.proofs.Common.{◌+◌, length}
use Rattle.std.specs.Option.{option_map}
use Rattle.tool_input.specs.Lines.{lines}
use Rattle.answer_words.specs.Place.{spot_of}
use Rattle.answer_words.proofs.ExclusionLemmas.{one_line, shorter_rest}
use Rattle.answer_words.proofs.exclusion.last_excluding.Goals as goal

pub lines-preserved : goal.lines-preserved
lines-preserved c =
    let shown = c.split_once.result.0.now in
    let more = c.in-Some.more.now in (
      one_line c.args.other.now shown c.lines.line c.lines.left (lines c.lines.rest.now) (lines more) (option_map spot_of c.lines.found) (option_map spot_of c.later-found.result) _ (rw c.in-Some.is at c.split_once.ensures.parts) c.lines-test.true c.later-found.ensures c.lines.invariant.0,
      shorter_rest c.lines.rest.now shown more c.lines.line (c.args.first + length c.args.text.now) (rw c.in-Some.is at c.split_once.ensures.whole) c.lines.invariant.1,
    )
