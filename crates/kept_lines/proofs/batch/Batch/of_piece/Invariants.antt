-- What the loop over a piece keeps, and why it ends.
use Rattle.std.proofs.Common.{◌≢◌, length}
use Rattle.std.specs.Prelude.{All}
use Rattle.kept_lines.specs.inner.Coming.{AnswersPieceUpTo}
use Rattle.kept_lines.proofs.batch.Batch.of_piece.Given as goal

-- the piece is answered up to the rest, and what is held of a begun line has no LF
abbrev pub invariant-lines : goal.invariant-lines
invariant-lines g l = record {
  up_to : AnswersPieceUpTo g.A.Responder.answers l.fn.responder l.fn.begun l.piece l.rest l.responder l.begun l.batch.replies l.batch.acts;
  unended : All (λ byte. byte ≢ 10) l.begun;
}

-- the bytes that are left
abbrev pub decreases-lines : goal.decreases-lines
decreases-lines g l = length l.rest
