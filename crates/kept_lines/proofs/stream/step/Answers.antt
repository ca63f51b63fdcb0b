-- What is answered of a piece is kept and written.
use Rattle.kept_lines.specs.inner.Coming.{passed}
use Rattle.kept_lines.proofs.stream.step.Goals as goal

pub returns-clause-order : goal.returns-clause-order
returns-clause-order g c =
    passed c.in-Ok.batch.replies c.in-Ok.batch.acts c.in-Ok.ensures (rw (c.as_slice.ensures, c.as_slice-2.ensures) at c.keep_and_write.ensures.order)
