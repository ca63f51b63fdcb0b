-- The words so far have been read.
use Rattle.std.proofs.Common.{◌≡◌, Some, take}
use Rattle.std.specs.Prelude.{map}
use Rattle.bspl_parser.specs.Token.{token_text}
use Rattle.question_text.specs.inner.Reading.{progress_of}
use Rattle.question_text.specs.inner.Progress.{at_start}
use Rattle.question_text.proofs.Steps.{steps}
use Rattle.question_text.proofs.reader.read_tokens.Given as goal

abbrev pub invariant-loop-token : goal.invariant-loop-token
invariant-loop-token l = steps (Some at_start) (map token_text (take l.token-index l.tokens)) ≡ Some (progress_of l.reading)
